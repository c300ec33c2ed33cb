-- Finite doubles: how the standard library tests for one, and that a flow or an occupancy in range is one; and what a usable sample is.
-- Assumes nothing.
use Prim.Native.Nat.{ℕ}
use mathlib.Core.Path.{◌≡◌, refl, sym, ◌∙◌}
use mathlib.Core.Bool.{Bool, true, false, false≢true}
use lib.Ieee.{Float, nan, inf, fin, le, of_int}
use Rattle.std.specs.Float.{float_is_finite}
use Rattle.std.specs.Prelude.{Ok, Err}
use Rattle.whole.specs.Search.{pick}
use Rattle.calibrate_rows.specs.Doubles.{finite}
use Rattle.calibrate_fit.specs.declared.Cause.TheVariants.{FlowNotFinite, FlowOutOfRange, OccupancyNotFinite, OccupancyOutOfRange}
use Rattle.calibrate_fit.specs.Samples.{Reading, flow_in_range, occupancy_in_range, good_sample, sample_of, usable}

pub finite_is : (x : Float) → float_is_finite x ≡ finite x
unfolding float_is_finite
finite_is nan = refl
finite_is (inf negative) = refl
finite_is (fin negative m e) = refl

-- a test that neither a NaN nor an infinity passes is passed by finite doubles alone
only_finite : (test : Float → Bool) → test nan ≡ false → test (inf true) ≡ false → test (inf false) ≡ false → (x : Float) → test x ≡ true → finite x ≡ true
only_finite test none low high nan h = absurd (false≢true (sym none ∙ h))
only_finite test none low high (inf true) h = absurd (false≢true (sym low ∙ h))
only_finite test none low high (inf false) h = absurd (false≢true (sym high ∙ h))
only_finite test none low high (fin negative m e) h = refl

pub flow_is_finite : (flow : Float) → flow_in_range flow ≡ true → finite flow ≡ true
unfolding le of_int
flow_is_finite = only_finite flow_in_range refl refl refl

pub occupancy_is_finite : (occupancy : Float) → occupancy_in_range occupancy ≡ true → finite occupancy ≡ true
unfolding le of_int
occupancy_is_finite = only_finite occupancy_in_range refl refl refl

pub ruleset in_range_is_finite = (flow_is_finite, occupancy_is_finite)

-- a usable sample has passed each test of its reading
pub usable_is_good : (g : Float) (lanes : ℕ) (flow occupancy : Float) → usable (sample_of g lanes flow occupancy) ≡ true → sample_of g lanes flow occupancy ≡ Ok (good_sample g lanes flow occupancy)
unfolding sample_of
usable_is_good g lanes flow occupancy = by (finite flow) (flow_in_range flow) (finite occupancy) (occupancy_in_range occupancy)
  where
    good : Reading
    good = Ok (good_sample g lanes flow occupancy)

    read : Bool → Bool → Bool → Bool → Reading
    read a b c d =
        pick a (pick b (pick c (pick d good (Err OccupancyOutOfRange)) (Err OccupancyNotFinite)) (Err FlowOutOfRange)) (Err FlowNotFinite)

    by : (a b c d : Bool) → usable (read a b c d) ≡ true → read a b c d ≡ good
    by true true true true e = refl
    by true true true false e = absurd (false≢true e)
    by true true false d e = absurd (false≢true e)
    by true false c d e = absurd (false≢true e)
    by false b c d e = absurd (false≢true e)
