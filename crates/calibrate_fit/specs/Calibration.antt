-- Rules, "Refusal numbers" 1, 9, 10 and 11: what is asked of samples, settings, a fit and a calibration, and what is answered.
use Rattle.std.specs.Prelude.{◌+◌, Bool, ◌&&◌, List, [], ◌∷◌, ◌++◌, leb, eqb, Float, length, Result}
use Rattle.whole.specs.Sums.{at_position}
use Rattle.refusals.specs.declared.Refusal.{Refusal}
use Rattle.refusals.specs.declared.Refusal.TheVariants.{Sample, Fit}
use Rattle.refusals.specs.Checks.{Answer, Check, answer, lengths}
use Rattle.calibrate_fit.specs.declared.Settings.{Settings}
use Rattle.calibrate_rows.specs.declared.Diagram.{Diagram}
use Rattle.calibrate_rows.specs.declared.RowValues.{RowValues}
use Rattle.calibrate_fit.specs.declared.Calibrated.{Calibrated}
use Rattle.calibrate_fit.specs.Samples.{vehicle_fits, lanes_fit, sample_at, usable, samples}
use Rattle.calibrate_fit.specs.Diagrams.{free_of, diagram_of, can_be_fitted}
use Rattle.calibrate_rows.specs.RowNumbers.{row_values, row_numbers}
use Rattle.calibrate_rows.specs.Rows.{cell_settings_fit, values_fit, refused_or}

-- 1: equally long lists, of at most 65,536 samples, and a free stretch that ends neither past the samples nor before it starts
abbrev pub lengths_fit : Settings → List Float → List Float → Bool
lengths_fit settings flow occupancy =
    eqb (length flow) (length occupancy)
    && leb (length flow) 65_536
    && leb settings.end (length flow)
    && leb settings.start settings.end

-- 9: a setting is at place 0; a sample counts from 1
abbrev pub settings_fit : Settings → Bool
settings_fit settings =
    vehicle_fits settings.g && lanes_fit settings.lanes && cell_settings_fit settings.period settings.cell

abbrev pub samples_usable : Settings → List Float → List Float → Check
samples_usable settings flow occupancy =
    record {
      places = length flow + 1;
      test = at_position (settings_fit settings) (λ i. usable (sample_at settings flow occupancy i));
      refusal = Sample;
    }

-- 10
abbrev pub diagram_fits : Settings → List Float → List Float → Check
diagram_fits settings flow occupancy =
    record { places = 1; test = λ _. can_be_fitted (free_of settings flow occupancy) (samples settings flow occupancy); refusal = λ _. Fit }

-- What is asked of samples (1, 9), of a fit (1, 9, 10), and of a calibration (1, 9, 10, 11)

abbrev pub sample_checks : Settings → List Float → List Float → List Check
sample_checks settings flow occupancy =
    lengths (lengths_fit settings flow occupancy) ∷ samples_usable settings flow occupancy ∷ []

abbrev pub fit_checks : Settings → List Float → List Float → List Check
fit_checks settings flow occupancy = sample_checks settings flow occupancy ++ (diagram_fits settings flow occupancy ∷ [])

abbrev pub fitted_diagram : Settings → List Float → List Float → Diagram
fitted_diagram settings flow occupancy = diagram_of (free_of settings flow occupancy) (samples settings flow occupancy)

abbrev pub fitted_values : Settings → List Float → List Float → RowValues
fitted_values settings flow occupancy = row_values (fitted_diagram settings flow occupancy) settings.period settings.cell

abbrev pub calibration_checks : Settings → List Float → List Float → List Check
calibration_checks settings flow occupancy = fit_checks settings flow occupancy ++ (values_fit (fitted_values settings flow occupancy) ∷ [])

-- the refusal, or what was asked for where there is none

abbrev pub fit_as : Answer → Diagram → Result Diagram Refusal
fit_as a diagram = refused_or a diagram

abbrev pub calibrated_as : Answer → Diagram → RowValues → Result Calibrated Refusal
calibrated_as a diagram values = refused_or a (record { diagram = diagram; row = row_numbers values })

abbrev pub fit_of : Settings → List Float → List Float → Result Diagram Refusal
fit_of settings flow occupancy = fit_as (answer (fit_checks settings flow occupancy)) (fitted_diagram settings flow occupancy)

abbrev pub calibration_of : Settings → List Float → List Float → Result Calibrated Refusal
calibration_of settings flow occupancy =
    calibrated_as (answer (calibration_checks settings flow occupancy)) (fitted_diagram settings flow occupancy) (fitted_values settings flow occupancy)
