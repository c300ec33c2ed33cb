-- Number 10 and the diagram, from the sums that the code found. A free stretch that is empty, or no sample above critical,
-- leaves a sum of squares at zero. Assumes nothing.
use mathlib.Core.Path.{◌≡◌, refl, sym, ap, ◌∙◌}
use mathlib.Core.Bool.{Bool, true, false, not, ◌&&◌, ◌||◌, false≢true}
use mathlib.Core.List.{List, [], ◌∷◌}
use lib.Ieee.{Float, of_int, eq}
use Rattle.refusals.specs.declared.Refusal.TheVariants.{Fit}
use Rattle.std.specs.Prelude.{Ok, Err}
use Rattle.refusals.specs.Checks.{accepted, answer}
use Rattle.calibrate_fit.specs.Samples.{Reading}
use Rattle.calibrate_fit.specs.declared.Sums.{Sums}
use Rattle.calibrate_rows.specs.declared.Diagram.{Diagram}
use Rattle.calibrate_rows.specs.Doubles.{◌⊕◌, ◌⊘◌, is_zero}
use Rattle.calibrate_fit.specs.Calibration.{fit_as}
use Rattle.calibrate_rows.proofs.Answers.{test_fails, test_passes}
use Rattle.calibrate_fit.specs.Diagrams.{sum_over, ratio, density_squared, speed_sums, largest_flow, above, excess_squared, wave_sums, diagram_of, is_empty, can_be_fitted}

-- nothing sums to zero
empty_sum : (term : Float → Float → Float) (all : List Reading) → is_empty all ≡ true → is_zero (sum_over term all) ≡ true
unfolding of_int eq
empty_sum term [] e = refl
empty_sum term (sample ∷ rest) e = absurd (false≢true e)

-- of six tests two follow from two others
four_of_six : (none squares excesses speed wave over : Bool) → (none ≡ true → squares ≡ true) → (over ≡ true → excesses ≡ true) → (not none && not squares && not excesses && not speed && not wave && not over) ≡ not (squares || speed || excesses || wave)
four_of_six true squares excesses speed wave over h k = rw (h refl)
four_of_six false true excesses speed wave over h k = refl
four_of_six false false true true wave over h k = refl
four_of_six false false true false wave over h k = refl
four_of_six false false false true wave over h k = refl
four_of_six false false false false true over h k = refl
four_of_six false false false false false true h k = absurd (false≢true (k refl))
four_of_six false false false false false false h k = refl

module _ (free all : List Reading) (speeds waves : Sums) (capacity : Float) (s : speeds ≡ speed_sums free) (k : capacity ≡ largest_flow all) (w : waves ≡ wave_sums capacity (capacity ⊘ ratio speeds) all) where
  diagram_is : ◌≡◌ {A = Diagram} (record { speed = ratio speeds; capacity = capacity; critical = capacity ⊘ ratio speeds; wave = ratio waves; jam = (capacity ⊘ ratio speeds) ⊕ capacity ⊘ ratio waves }) (diagram_of free all)
  unfolding diagram_of
  diagram_is = rw (w, s, k)

  fits_unless : not (is_zero speeds.bottom || is_zero (ratio speeds) || is_zero waves.bottom || is_zero (ratio waves)) ≡ can_be_fitted free all
  unfolding can_be_fitted diagram_of
  fits_unless =
      let critical = largest_flow all ⊘ ratio (speed_sums free) in
      rw (w, s, k)
      (sym
      (four_of_six (is_empty free) _ _ _ _ (is_empty (above critical all)) (empty_sum density_squared free) (empty_sum (excess_squared critical) (above critical all))))

  -- the code's test went one way or the other
  pub no_diagram : (is_zero speeds.bottom || is_zero (ratio speeds) || is_zero waves.bottom || is_zero (ratio waves)) ≡ true → Err Fit ≡ fit_as (answer (record { places = 1; test = λ _. can_be_fitted free all; refusal = λ _. Fit } ∷ [])) (diagram_of free all)
  no_diagram zero = ap (λ a. fit_as a (diagram_of free all)) (test_fails (λ _. Fit) accepted (sym fits_unless ∙ ap not zero))

  pub the_diagram : (is_zero speeds.bottom || is_zero (ratio speeds) || is_zero waves.bottom || is_zero (ratio waves)) ≡ false → Ok (record { speed = ratio speeds; capacity = capacity; critical = capacity ⊘ ratio speeds; wave = ratio waves; jam = (capacity ⊘ ratio speeds) ⊕ capacity ⊘ ratio waves }) ≡ fit_as (answer (record { places = 1; test = λ _. can_be_fitted free all; refusal = λ _. Fit } ∷ [])) (diagram_of free all)
  the_diagram none =
      ap Ok diagram_is
      ∙ ap (λ a. fit_as a (diagram_of free all)) (test_passes (λ _. Fit) accepted (sym fits_unless ∙ ap not none))
