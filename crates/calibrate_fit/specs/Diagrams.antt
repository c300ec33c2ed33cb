-- Rules, "Calibration": the five doubles of the diagram.
use Rattle.std.specs.Prelude.{Bool, true, false, not, ◌&&◌, Float, Ok, Err}
use mathlib.Core.List.{List, [], ◌∷◌, foldl}
use Rattle.std.specs.Float.Ieee.{lt}
use Rattle.whole.specs.Search.{pick}
use Rattle.calibrate_fit.specs.declared.Settings.{Settings}
use Rattle.calibrate_fit.specs.declared.Sums.{Sums}
use Rattle.calibrate_rows.specs.declared.Diagram.{Diagram}
use Rattle.calibrate_rows.specs.Doubles.{◌⊕◌, ◌⊖◌, ◌⊗◌, ◌⊘◌, double, is_zero}
use Rattle.calibrate_fit.specs.Samples.{Reading, samples, stretch}

-- all sums start at 0 and run in sample order
abbrev pub adds : (Float → Float → Float) → Float → Reading → Float
adds term total (Ok sample) = total ⊕ term sample.flow sample.density
adds term total (Err cause) = total

abbrev pub sum_over : (Float → Float → Float) → List Reading → Float
sum_over term all = foldl (adds term) (double 0) all

-- two sums, the one to be divided by the other
abbrev pub ratio : Sums → Float
ratio sums = sums.top ⊘ sums.bottom

-- speed = Σ(flow×density) / Σ(density×density) over the free stretch
abbrev pub flow_by_density : Float → Float → Float
flow_by_density flow density = flow ⊗ density

abbrev pub density_squared : Float → Float → Float
density_squared flow density = density ⊗ density

abbrev pub speed_sums : List Reading → Sums
speed_sums free = record { top = sum_over flow_by_density free; bottom = sum_over density_squared free }

-- capacity = the largest flow of all samples
abbrev pub larger : Float → Reading → Float
larger most (Ok sample) = pick (lt most sample.flow) sample.flow most
larger most (Err cause) = most

abbrev pub largest_flow : List Reading → Float
largest_flow all = foldl larger (double 0) all

-- wave = Σ((capacity − flow)×(density − critical)) / Σ((density − critical)×(density − critical)) over samples with density above critical
abbrev pub is_above : Float → Reading → Bool
is_above critical (Ok sample) = lt critical sample.density
is_above critical (Err cause) = false

abbrev pub above : Float → List Reading → List Reading
above critical [] = []
above critical (sample ∷ rest) = pick (is_above critical sample) (sample ∷ above critical rest) (above critical rest)

abbrev pub gap_by_excess : Float → Float → Float → Float → Float
gap_by_excess capacity critical flow density = (capacity ⊖ flow) ⊗ (density ⊖ critical)

abbrev pub excess_squared : Float → Float → Float → Float
excess_squared critical flow density = (density ⊖ critical) ⊗ (density ⊖ critical)

abbrev pub wave_sums : Float → Float → List Reading → Sums
wave_sums capacity critical all =
    record { top = sum_over (gap_by_excess capacity critical) (above critical all); bottom = sum_over (excess_squared critical) (above critical all) }

-- critical = capacity / speed, jam = critical + capacity / wave; the diagram is these five doubles kept together
unfoldable pub diagram_of : List Reading → List Reading → Diagram
diagram_of free all =
    let speed = ratio (speed_sums free) in
    let capacity = largest_flow all in
    let critical = capacity ⊘ speed in
    let wave = ratio (wave_sums capacity critical all) in
    record { speed = speed; capacity = capacity; critical = critical; wave = wave; jam = critical ⊕ capacity ⊘ wave }

-- 10: free stretch empty; either Σ of squares, speed or wave computed as zero; no sample above critical
abbrev pub is_empty : List Reading → Bool
is_empty [] = true
is_empty (sample ∷ rest) = false

unfoldable pub can_be_fitted : List Reading → List Reading → Bool
can_be_fitted free all =
    let diagram = diagram_of free all in
    not (is_empty free)
    && not (is_zero (speed_sums free).bottom)
    && not (is_zero (wave_sums diagram.capacity diagram.critical all).bottom)
    && not (is_zero diagram.speed)
    && not (is_zero diagram.wave)
    && not (is_empty (above diagram.critical all))

-- the free stretch of two lists
abbrev pub free_of : Settings → List Float → List Float → List Reading
free_of settings flow occupancy = stretch settings.start settings.end (samples settings flow occupancy)
