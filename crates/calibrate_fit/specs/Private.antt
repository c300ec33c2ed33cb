-- Cited by private contracts and proofs alone: no public promise rests on this file.
-- What the passes over samples are asked and do.
use Rattle.std.specs.Prelude.{ℕ, ◌<◌, ◌≡◌, true, List, [], ◌∷◌, Float, length, Result}
use Rattle.whole.specs.Search.{pick}
use Rattle.calibrate_fit.specs.declared.Settings.{Settings}
use Rattle.refusals.specs.declared.Refusal.{Refusal}
use Rattle.refusals.specs.Checks.{answer}
use Rattle.calibrate_rows.specs.Rows.{refused_or}
use Rattle.calibrate_fit.specs.Samples.{Reading, sample_at, samples, usable}
use Rattle.calibrate_fit.specs.Diagrams.{adds, is_above, largest_flow}
use Rattle.calibrate_fit.specs.Calibration.{samples_usable}

-- no sample of two lists is refused
abbrev pub AllUsable : Settings → List Float → List Float → Type 0
AllUsable settings flow occupancy = (i : ℕ) → i < length flow → usable (sample_at settings flow occupancy i) ≡ true

-- capacity, or the refusal with number 9
abbrev pub usable_capacity : Settings → List Float → List Float → Result Float Refusal
usable_capacity settings flow occupancy = refused_or (answer (samples_usable settings flow occupancy ∷ [])) (largest_flow (samples settings flow occupancy))

-- a step of a sum over the samples above critical, in a pass over all samples
abbrev pub adds_above : Float → (Float → Float → Float) → Float → Reading → Float
adds_above critical term total sample = pick (is_above critical sample) (adds term total sample) total
