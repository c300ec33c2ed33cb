-- Rules, "Calibration": the settings g and lanes, and how a sample is read.
use Rattle.std.specs.Prelude.{ℕ, ◌-◌, Bool, true, false, List, Float, length, get_or, take, drop, Result, Ok, Err}
use Rattle.std.specs.Float.{nan}
use Rattle.whole.specs.Search.{pick, within}
use Rattle.whole.specs.Lists.{build}
use Rattle.calibrate_fit.specs.declared.Settings.{Settings}
use Rattle.calibrate_fit.specs.declared.Sample.{Sample}
use Rattle.calibrate_fit.specs.declared.Cause.{Cause}
use Rattle.calibrate_fit.specs.declared.Cause.TheVariants.{FlowNotFinite, FlowOutOfRange, OccupancyNotFinite, OccupancyOutOfRange}
use Rattle.calibrate_rows.specs.Doubles.{◌⊗◌, ◌⊘◌, double, finite, between, unsigned}

-- g 1/1,024 to 1/16 mile; lanes 1 to 12; the ranges of T and L stand with what is asked of a row
abbrev pub vehicle_fits : Float → Bool
vehicle_fits g = between (double 1 ⊘ double 1_024) (double 1 ⊘ double 16) g

abbrev pub lanes_fit : ℕ → Bool
lanes_fit lanes = within 1 12 lanes

-- flow 0 to 20,000 veh/h, occupancy 0 to 1
abbrev pub flow_in_range : Float → Bool
flow_in_range flow = between (double 0) (double 20_000) flow

abbrev pub occupancy_in_range : Float → Bool
occupancy_in_range occupancy = between (double 0) (double 1) occupancy

-- density = (occupancy / g) × lanes
abbrev pub density : Float → ℕ → Float → Float
density g lanes occupancy = (occupancy ⊘ g) ⊗ double lanes

-- a flow in range with its density, both without a minus zero that was read
abbrev pub good_sample : Float → ℕ → Float → Float → Sample
good_sample g lanes flow occupancy = record { flow = unsigned flow; density = density g lanes (unsigned occupancy) }

-- a sample is read either as a flow with a density, or as unusable with the first cause
abbrev pub Reading : Type 0
Reading = Result Sample Cause

unfoldable pub sample_of : Float → ℕ → Float → Float → Reading
sample_of g lanes flow occupancy =
    pick (finite flow)
    (pick (flow_in_range flow)
    (pick (finite occupancy)
    (pick (occupancy_in_range occupancy) (Ok (good_sample g lanes flow occupancy)) (Err OccupancyOutOfRange))
    (Err OccupancyNotFinite))
    (Err FlowOutOfRange))
    (Err FlowNotFinite)

abbrev pub usable : Reading → Bool
usable (Ok sample) = true
usable (Err cause) = false

-- two lists, flow and occupancy, in sample order
abbrev pub sample_at : Settings → List Float → List Float → ℕ → Reading
sample_at settings flow occupancy i = sample_of settings.g settings.lanes (get_or flow i nan) (get_or occupancy i nan)

unfoldable pub samples : Settings → List Float → List Float → List Reading
samples settings flow occupancy = build (length flow) (sample_at settings flow occupancy)

-- a stretch of samples, its start and end counted from 0, the end not included
abbrev pub stretch : ℕ → ℕ → List Reading → List Reading
stretch start end all = take (end - start) (drop start all)
