-- What holds of signs and finiteness once numbers 1, 9 and 10 have passed: capacity and critical are finite and not
-- negative, speed and wave are above zero, jam is not negative. No NaN is in the diagram or in a row value, so number 11 is
-- never asked of one. Assumes nothing.
use Prim.Native.Nat.{ℕ, zero, suc, ◌+◌, ◌*◌, ◌^◌, ◌≤◌}
use mathlib.Core.Path.{◌≡◌, refl}
use mathlib.Core.Bool.{Bool, true, false, not, true≢false}
use mathlib.Core.List.{List, [], ◌∷◌, foldl}
use native.Mathlib.Nat.{le_trans, le_of_eq, zero-add, suc-mul, mul-le-mul}
use native.Mathlib.Omega.{arith}
use borrow.Author.Tests.{not-true}
use lib.Dec.{lit≤}
use lib.Ieee.{Float, lt}
use lib.ListN.{length, take, drop}
use Rattle.std.specs.Prelude.{Ok, Err}
use Rattle.whole.specs.Search.{pick}
use Rattle.whole.specs.Lists.{build}
use Rattle.calibrate_fit.specs.Samples.{Reading}
use Rattle.whole.proofs.Tests.{both_hold}
use Rattle.calibrate_fit.specs.declared.Sums.{Sums}
use Rattle.calibrate_rows.specs.declared.Diagram.{Diagram}
use Rattle.calibrate_rows.specs.Doubles.{◌⊕◌, ◌⊖◌, ◌⊘◌, double, is_zero}
use Rattle.calibrate_fit.specs.Diagrams.{adds, sum_over, ratio, flow_by_density, density_squared, speed_sums, larger, largest_flow, is_above, above, gap_by_excess, excess_squared, wave_sums, diagram_of, is_empty, can_be_fitted}
use Rattle.calibrate_laws.proofs.Signs.{UpTo, NotNegative, Above, AtMost, up_to_more, not_negative, at_most_up_to, double_up_to, add_up_to, mul_up_to, sub_up_to, div_above_sign, add_sign, above_zero, less_at_most, not_less_at_most, at_most_self, at_most_trans}

-- a fact of flow and density that holds of a sample, and of each sample of a list
abbrev pub Of : (Float → Float → Type 0) → Reading → Type 0
Of fact (Ok sample) = fact sample.flow sample.density
Of fact (Err cause) = Unit

abbrev pub Each : (Float → Float → Type 0) → List Reading → Type 0
Each fact [] = Unit
Each fact (sample ∷ rest) = Of fact sample × Each fact rest

pub each_built : (fact : Float → Float → Type 0) (n : ℕ) (f : ℕ → Reading) → ((i : ℕ) → Of fact (f i)) → Each fact (build n f)
each_built fact zero f h = tt
each_built fact (suc n) f h = (h zero, each_built fact n (λ i. f (suc i)) (λ i. h (suc i)))

pub each_drop : (fact : Float → Float → Type 0) (n : ℕ) (all : List Reading) → Each fact all → Each fact (drop n all)
each_drop fact zero all h = h
each_drop fact (suc n) [] h = tt
each_drop fact (suc n) (sample ∷ rest) h = each_drop fact n rest h.1

pub each_take : (fact : Float → Float → Type 0) (n : ℕ) (all : List Reading) → Each fact all → Each fact (take n all)
each_take fact zero all h = tt
each_take fact (suc n) [] h = tt
each_take fact (suc n) (sample ∷ rest) h = (h.0, each_take fact n rest h.1)

-- ---- sums

-- terms that are each at most `most` sum to at most as many times that
sums_up_to : (term : Float → Float → Float) (most end : ℕ) → end ≤ 2 ^ 53 → (all : List Reading) (total : Float) (before : ℕ) → UpTo before total → Each (λ flow density. UpTo most (term flow density)) all → before + length all * most ≤ end → UpTo end (foldl (adds term) total all)
sums_up_to term most end fits [] total before h each l = up_to_more before end total h (omega arith)
sums_up_to term most end fits (Ok sample ∷ rest) total before h each l =
    let more = suc-mul (length rest) most in
    let next = term sample.flow sample.density in
    sums_up_to term most end fits rest (total ⊕ next) (before + most) (add_up_to before most total next h each.0 (omega arith)) each.1 (omega arith)
sums_up_to term most end fits (Err cause ∷ rest) total before h each l =
    let more = suc-mul (length rest) most in
    sums_up_to term most end fits rest total before h each.1 (omega arith)

-- the bounds: flow 20,000, density 1,024 × 12, their product, and 65,536 such terms
abbrev pub Usual : Float → Float → Type 0
Usual flow density = UpTo 20_000 flow × UpTo 12_288 density

abbrev many : ℕ
many = 16_106_127_360_000

each_term : (fact : Float → Float → Type 0) (term : Float → Float → Float) (most : ℕ) → ((flow density : Float) → fact flow density → UpTo most (term flow density)) → (all : List Reading) → Each fact all → Each (λ flow density. UpTo most (term flow density)) all
each_term fact term most bound [] h = tt
each_term fact term most bound (Ok sample ∷ rest) h = (bound sample.flow sample.density h.0, each_term fact term most bound rest h.1)
each_term fact term most bound (Err cause ∷ rest) h = (tt, each_term fact term most bound rest h.1)

sum_up_to : (fact : Float → Float → Type 0) (term : Float → Float → Float) (most : ℕ) → most ≤ 245_760_000 → ((flow density : Float) → fact flow density → UpTo most (term flow density)) → (all : List Reading) → length all ≤ 65_536 → Each fact all → UpTo many (sum_over term all)
sum_up_to fact term most small bound all few each =
    sums_up_to term most many (lit≤ tt) all (double 0) 0 (double_up_to 0 (lit≤ tt)) (each_term fact term most bound all each)
    (le_trans (le_of_eq (zero-add (length all * most))) (le_trans (mul-le-mul few small) (lit≤ tt)))

-- ---- the largest flow

record Largest (start largest : Float) (all : List Reading) : Type 0 where
  most : UpTo 20_000 largest
  grows : AtMost start largest
  flows : Each (λ flow density. AtMost flow largest) all

largest_is : (all : List Reading) (start : Float) → UpTo 20_000 start → Each Usual all → Largest start (foldl larger start all) all
largest_is [] start h each = record { most = h; grows = at_most_self 20_000 start h; flows = tt }
largest_is (Err cause ∷ rest) start h each =
    let later = largest_is rest start h each.1 in
    record { most = later.most; grows = later.grows; flows = (tt, later.flows) }
largest_is (Ok sample ∷ rest) start h each = by (lt start sample.flow) refl (λ next ok. largest_is rest next ok each.1)
  where
    by : (b : Bool) → lt start sample.flow ≡ b → ((next : Float) → UpTo 20_000 next → Largest next (foldl larger next rest) rest) → Largest start (foldl larger (pick b sample.flow start) rest) (Ok sample ∷ rest)
    by true e go =
        let later = go sample.flow each.0.0 in
        record {
          most = later.most;
          grows = at_most_trans start sample.flow (foldl larger sample.flow rest) (less_at_most 20_000 start sample.flow (not_negative 20_000 start h) each.0.0 e) later.grows;
          flows = (later.grows, later.flows);
        }
    by false e go =
        let later = go start h in
        record {
          most = later.most;
          grows = later.grows;
          flows = (at_most_trans sample.flow start (foldl larger start rest) (not_less_at_most 20_000 20_000 start sample.flow h each.0.0 e) later.grows, later.flows);
        }

-- ---- the samples above critical

-- where there is one, critical is finite
above_is_finite : (critical : Float) → NotNegative critical → (all : List Reading) → Each Usual all → is_empty (above critical all) ≡ false → UpTo 12_288 critical
above_is_finite critical h [] each some = absurd (true≢false some)
above_is_finite critical h (Err cause ∷ rest) each some = above_is_finite critical h rest each.1 some
above_is_finite critical h (Ok sample ∷ rest) each some = by (lt critical sample.density) refl some (above_is_finite critical h rest each.1)
  where
    by : (b : Bool) → lt critical sample.density ≡ b → is_empty (pick b (Ok sample ∷ above critical rest) (above critical rest)) ≡ false → (is_empty (above critical rest) ≡ false → UpTo 12_288 critical) → UpTo 12_288 critical
    by true e some go = at_most_up_to 12_288 critical sample.density (less_at_most 12_288 critical sample.density h each.0.1 e) each.0.1
    by false e some go = go some

abbrev Over : Float → Float → Float → Float → Type 0
Over capacity critical flow density = (UpTo 12_288 density × AtMost flow capacity) × AtMost critical density

each_above : (capacity critical : Float) → NotNegative critical → (all : List Reading) → Each Usual all → Each (λ flow density. AtMost flow capacity) all → Each (Over capacity critical) (above critical all)
each_above capacity critical h [] each flows = tt
each_above capacity critical h (Err cause ∷ rest) each flows = each_above capacity critical h rest each.1 flows.1
each_above capacity critical h (Ok sample ∷ rest) each flows = by (lt critical sample.density) refl (each_above capacity critical h rest each.1 flows.1)
  where
    by : (b : Bool) → lt critical sample.density ≡ b → Each (Over capacity critical) (above critical rest) → Each (Over capacity critical) (pick b (Ok sample ∷ above critical rest) (above critical rest))
    by true e later = (((each.0.1, flows.0), less_at_most 12_288 critical sample.density h each.0.1 e), later)
    by false e later = later

above_length : (critical : Float) (all : List Reading) → length (above critical all) ≤ length all
above_length critical [] = lit≤ tt
above_length critical (sample ∷ rest) = by (is_above critical sample) (above_length critical rest)
  where
    by : (b : Bool) → length (above critical rest) ≤ length rest → length (pick b (sample ∷ above critical rest) (above critical rest)) ≤ suc (length rest)
    by true h = omega arith
    by false h = omega arith

-- ---- the diagram

pub record Sound (diagram : Diagram) : Type 0 where
  pub speed : Above diagram.speed
  pub capacity : UpTo 20_000 diagram.capacity
  pub critical : UpTo 12_288 diagram.critical
  pub wave : Above diagram.wave
  pub jam : NotNegative diagram.jam

module _ (free all : List Reading) (few-free : length free ≤ 65_536) (few : length all ≤ 65_536) (usual-free : Each Usual free) (usual : Each Usual all) (fit : can_be_fitted free all ≡ true) where
  abbrev diagram : Diagram
  diagram = diagram_of free all

  abbrev speeds : Sums
  speeds = speed_sums free

  abbrev waves : Sums
  waves = wave_sums diagram.capacity diagram.critical all

  -- what number 10 leaves
  record Passed : Type 0 where
    squares : is_zero speeds.bottom ≡ false
    excesses : is_zero waves.bottom ≡ false
    speed : is_zero diagram.speed ≡ false
    wave : is_zero diagram.wave ≡ false
    over : is_empty (above diagram.critical all) ≡ false

  passed : Passed
  unfolding can_be_fitted
  passed =
      let over = both_hold _ _ fit in
      let wave = both_hold _ _ over.0 in
      let speed = both_hold _ _ wave.0 in
      let excesses = both_hold _ _ speed.0 in
      let squares = both_hold (not (is_empty free)) _ excesses.0 in
      record {
        squares = not-true _ squares.1;
        excesses = not-true _ excesses.1;
        speed = not-true _ speed.1;
        wave = not-true _ wave.1;
        over = not-true _ over.1;
      }

  largest : Largest (double 0) (largest_flow all) all
  largest = largest_is all (double 0) (up_to_more 0 20_000 (double 0) (double_up_to 0 (lit≤ tt)) (lit≤ tt)) usual

  -- a quotient of two sums, the lower one not zero, is not negative
  ratio_sign : (sums : Sums) → UpTo many sums.top → UpTo many sums.bottom → is_zero sums.bottom ≡ false → NotNegative (ratio sums)
  ratio_sign sums top bottom h =
      div_above_sign many sums.top sums.bottom top (above_zero sums.bottom (not_negative many sums.bottom bottom) h)

  speed_sound : Above (ratio speeds)
  unfolding diagram_of
  speed_sound =
      above_zero (ratio speeds)
      (ratio_sign speeds
      (sum_up_to Usual flow_by_density 245_760_000 (lit≤ tt) (λ flow density h. mul_up_to 20_000 12_288 flow density h.0 h.1 (lit≤ tt)) free few-free usual-free)
      (sum_up_to Usual density_squared 150_994_944 (lit≤ tt) (λ flow density h. mul_up_to 12_288 12_288 density density h.1 h.1 (lit≤ tt)) free few-free usual-free)
      passed.squares)
      passed.speed

  abbrev capacity : Float
  capacity = largest_flow all

  abbrev critical : Float
  critical = capacity ⊘ ratio speeds

  critical_sign : NotNegative critical
  critical_sign = div_above_sign 20_000 capacity (ratio speeds) largest.most speed_sound

  critical_sound : UpTo 12_288 critical
  unfolding diagram_of
  critical_sound = above_is_finite critical critical_sign all usual passed.over

  abbrev over : List Reading
  over = above critical all

  excess_up_to : (flow density : Float) → Over capacity critical flow density → UpTo 12_288 (density ⊖ critical)
  excess_up_to flow density h = sub_up_to 12_288 density critical h.0.0 h.1 (lit≤ tt)

  wave_sound : Above (ratio (wave_sums capacity critical all))
  unfolding diagram_of
  wave_sound =
      let each = each_above capacity critical critical_sign all usual largest.flows in
      let short = le_trans (above_length critical all) few in
      above_zero (ratio (wave_sums capacity critical all))
      (ratio_sign (wave_sums capacity critical all)
      (sum_up_to (Over capacity critical) (gap_by_excess capacity critical) 245_760_000 (lit≤ tt) (λ flow density h. mul_up_to 20_000 12_288 (capacity ⊖ flow) (density ⊖ critical) (sub_up_to 20_000 capacity flow largest.most h.0.1 (lit≤ tt)) (excess_up_to flow density h) (lit≤ tt)) over short each)
      (sum_up_to (Over capacity critical) (excess_squared critical) 150_994_944 (lit≤ tt) (λ flow density h. mul_up_to 12_288 12_288 (density ⊖ critical) (density ⊖ critical) (excess_up_to flow density h) (excess_up_to flow density h) (lit≤ tt)) over short each)
      passed.excesses)
      passed.wave

  pub sound : Sound diagram
  unfolding diagram_of
  sound =
      record {
        speed = speed_sound;
        capacity = largest.most;
        critical = critical_sound;
        wave = wave_sound;
        jam =
            add_sign critical (capacity ⊘ ratio (wave_sums capacity critical all)) critical_sign
            (div_above_sign 20_000 capacity (ratio (wave_sums capacity critical all)) largest.most wave_sound);
      }
