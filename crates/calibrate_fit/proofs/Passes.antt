-- A pass over the samples of a stretch, one after the other, gives what the definitions say of the stretch. Assumes nothing.
use Prim.Native.Nat.{ℕ, suc, ◌+◌, ◌-◌, ◌≤◌, ◌<◌}
use mathlib.Core.Path.{◌≡◌, refl, sym, ap, ◌∙◌}
use mathlib.Core.Bool.{Bool, true, false}
use mathlib.Core.List.{List, [], ◌∷◌, foldl}
use native.Mathlib.Numerals.{add-one}
use native.Mathlib.Omega.{arith}
use lib.Ieee.{Float}
use lib.ListN.{length, get_or}
use lib.Seq.{drop-cons, take-length}
use Rattle.std.specs.Prelude.{Err}
use Rattle.whole.specs.Search.{pick}
use Rattle.whole.proofs.Lists.{build-length, build_at}
use Rattle.calibrate_fit.specs.declared.Settings.{Settings}
use Rattle.calibrate_fit.specs.declared.Cause.TheVariants.{FlowNotFinite}
use Rattle.calibrate_fit.specs.declared.Sums.{Sums}
use Rattle.calibrate_rows.specs.Doubles.{double}
use Rattle.calibrate_fit.specs.Samples.{Reading, sample_at, samples, stretch}
use Rattle.calibrate_fit.specs.Diagrams.{adds, is_above, above}
use Rattle.calibrate_fit.specs.Private.{adds_above}

-- the samples of two lists
pub samples_length : (settings : Settings) (flow occupancy : List Float) → length (samples settings flow occupancy) ≡ length flow
unfolding samples
samples_length settings flow occupancy = build-length (length flow) (sample_at settings flow occupancy)

-- any sample, where a list ends
abbrev none : Reading
none = Err FlowNotFinite

pub sample_at_lem : (settings : Settings) (flow occupancy : List Float) (i : ℕ) → i < length flow → get_or (samples settings flow occupancy) i none ≡ sample_at settings flow occupancy i
unfolding samples
sample_at_lem settings flow occupancy i h = build_at (length flow) (sample_at settings flow occupancy) i none h

-- a stretch is its first sample and the stretch from the next
stretch-cons : (all : List Reading) (i end : ℕ) → i < end → end ≤ length all → stretch i end all ≡ get_or all i none ∷ stretch (i + 1) end all
stretch-cons all i end h fit =
    let within : i < length all = omega arith in
    let more : end - i ≡ suc (end - suc i) = omega arith in
    rw (more, add-one i, drop-cons all i none within)

stretch_ends : (all : List Reading) (i end : ℕ) → end ≤ i → stretch i end all ≡ []
stretch_ends all i end h = let none_left : end - i ≡ 0 = omega arith in rw none_left

pub stretch_whole : (all : List Reading) (n : ℕ) → n ≡ length all → stretch 0 n all ≡ all
stretch_whole all n e = let whole : n - 0 ≡ length all = omega arith in rw whole (take-length all)

-- what a total comes to over a list of samples, and the step that takes one sample into it
pub record Pass : Type 0 where
  pub onward : Float → List Reading → Float
  pub step : Float → Reading → Float
  pub stops : (total : Float) → onward total [] ≡ total
  pub steps : (total : Float) (sample : Reading) (rest : List Reading) → onward total (sample ∷ rest) ≡ onward (step total sample) rest

abbrev pub folding : (Float → Reading → Float) → Pass
folding step = record { onward = foldl step; step = step; stops = λ total. refl; steps = λ total sample rest. refl }

abbrev pub summing : (Float → Float → Float) → Pass
summing term = folding (adds term)

abbrev pub summing_above : Float → (Float → Float → Float) → Pass
summing_above critical term =
    record {
      onward = λ total all. foldl (adds term) total (above critical all);
      step = adds_above critical term;
      stops = λ total. refl;
      steps = λ total sample rest. by (is_above critical sample) total sample (above critical rest);
    }
  where
    by : (b : Bool) (total : Float) (sample : Reading) (rest : List Reading) → foldl (adds term) total (pick b (sample ∷ rest) rest) ≡ foldl (adds term) (pick b (adds term total sample) total) rest
    by true total sample rest = refl
    by false total sample rest = refl

-- where a pass over two lists, from start to end, stands at i: the samples left bring its total to what the whole stretch gives
pub record Passing (pass : Pass) (settings : Settings) (flow occupancy : List Float) (start end i : ℕ) (total : Float) : Type 0 where
  pub gives : pass.onward total (stretch i end (samples settings flow occupancy)) ≡ pass.onward (double 0) (stretch start end (samples settings flow occupancy))

pub begins : {pass : Pass} {settings : Settings} {flow occupancy : List Float} {start end : ℕ} → Passing pass settings flow occupancy start end start (double 0)
begins = record { gives = refl }

module _ {pass : Pass} {settings : Settings} {flow occupancy : List Float} {start end i : ℕ} {total : Float} (at : Passing pass settings flow occupancy start end i total) where
  abbrev all : List Reading
  all = samples settings flow occupancy

  pub goes_on : {next : Float} {reading : Reading} → i < end → end ≤ length flow → reading ≡ sample_at settings flow occupancy i → next ≡ pass.step total reading → Passing pass settings flow occupancy start end (i + 1) next
  goes_on {next} {reading} h fit read stepped =
      record {
        gives =
            ap (λ t. pass.onward t (stretch (i + 1) end all)) stepped
            ∙ sym (pass.steps total reading (stretch (i + 1) end all))
            ∙ ap (λ s. pass.onward total (s ∷ stretch (i + 1) end all)) (read ∙ sym (sample_at_lem settings flow occupancy i (omega arith)))
            ∙ sym (ap (pass.onward total) (stretch-cons all i end h (rw (samples_length settings flow occupancy) fit)))
            ∙ at.gives;
      }

  pub ends : end ≤ i → total ≡ pass.onward (double 0) (stretch start end all)
  ends h = sym (pass.stops total) ∙ sym (ap (pass.onward total) (stretch_ends all i end h)) ∙ at.gives

-- the same over all samples
pub ends_whole : {pass : Pass} {settings : Settings} {flow occupancy : List Float} {i : ℕ} {total : Float} → Passing pass settings flow occupancy 0 (length flow) i total → length flow ≤ i → total ≡ pass.onward (double 0) (samples settings flow occupancy)
ends_whole {pass} {settings} {flow} {occupancy} at h =
    ends at h
    ∙ ap (pass.onward (double 0)) (stretch_whole (samples settings flow occupancy) (length flow) (sym (samples_length settings flow occupancy)))

-- the two sums of one quotient
abbrev pub sums_of : Float → Float → Sums
sums_of top bottom = record { top = top; bottom = bottom }
