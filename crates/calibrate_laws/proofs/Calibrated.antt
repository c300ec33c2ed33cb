-- What the public answers tell: a fitted diagram holds no NaN, and neither do its row values; a row that was made is in the
-- ranges that number 2 asks of v, w, F and J. Assumes nothing.
use Prim.Native.Nat.{ℕ, ◌-◌, ◌*◌, ◌^◌, ◌≤◌, ◌<◌}
use mathlib.Core.Path.{◌≡◌, refl, sym, ◌∙◌, subst}
use mathlib.Core.Bool.{Bool, true, false, ◌&&◌, true≢false, false≢true}
use mathlib.Core.List.{List}
use native.Mathlib.Nat.{le_trans, le-div_iff_mul-le}
use native.Mathlib.Omega.{arith}
use borrow.Author.Tests.{leb-true, eqb-true, eq-eqb, le-leb}
use lib.IntN.{ℤ}
use lib.Dec.{T, leb, lit≤, lit<}
use lib.Ieee.{Float, nan, inf, fin, binary64, up, down, le, lt, eq, of_int, mul, div}
use lib.Ieee.Positive as positive
use lib.ListN.{length, take, drop, length-take, length-drop}
use Rattle.whole.specs.Search.{pick, within}
use Rattle.layout.specs.declared.Row.{Row}
use Rattle.std.specs.Prelude.{Ok, Err}
use Rattle.refusals.specs.Checks.{accepted, or_later, answer, lengths}
use Rattle.accept_ranges.specs.Ranges.{row_in_range}
use Rattle.whole.proofs.Search.{Passes}
use Rattle.whole.proofs.Tests.{both_hold}
use Rattle.refusals.proofs.Answers.{accepted_passes}
use Rattle.calibrate_fit.specs.declared.Settings.{Settings}
use Rattle.calibrate_fit.specs.declared.Cause.TheVariants.{FlowNotFinite, FlowOutOfRange, OccupancyNotFinite, OccupancyOutOfRange}
use Rattle.calibrate_rows.specs.declared.Diagram.{Diagram}
use Rattle.calibrate_rows.specs.declared.RowValues.{RowValues}
use Rattle.calibrate_rows.specs.declared.RowNumbers.{RowNumbers}
use Rattle.calibrate_fit.specs.declared.Calibrated.{Calibrated}
use Rattle.calibrate_rows.specs.Doubles.{◌⊗◌, ◌⊘◌, double, finite, between, is_zero, unsigned}
use Rattle.calibrate_fit.specs.Samples.{Reading, vehicle_fits, lanes_fit, flow_in_range, occupancy_in_range, density, good_sample, sample_of, sample_at, samples}
use Rattle.calibrate_fit.specs.Diagrams.{free_of, can_be_fitted}
use Rattle.calibrate_rows.specs.RowNumbers.{speed_share, row_values, row_numbers, rounded_down, value_fits}
use Rattle.calibrate_fit.specs.Calibration.{lengths_fit, settings_fit, samples_usable, diagram_fits, fit_checks, calibration_checks, fitted_diagram, fitted_values, fit_of, calibration_of}
use Rattle.calibrate_rows.specs.Rows.{cell_fits, cell_settings_fit, setting_usable, values_fit, making_checks, row_made}
use Rattle.calibrate_rows.proofs.Rounding.{denominator_pos, double_positive, InLimits, in_limits, rounded_most}
use Rattle.calibrate_rows.proofs.Answers.{asked_by}
use Rattle.calibrate_fit.proofs.Answers.{lengths_fit_lem, settings_in_range, cell_in_range}
use Rattle.calibrate_fit.proofs.Passes.{samples_length}
use Rattle.calibrate_laws.proofs.Signs.{UpTo, NotNegative, AtLeastOneOver, up_to_more, not_negative, le_value, double_up_to, mul_up_to, div_up_to, mul_sign, div_sign, above_sign}
use Rattle.calibrate_laws.proofs.NoNan.{Of, Each, each_built, each_drop, each_take, Usual, Sound, sound}

yes : {b : Bool} → b ≡ true → T b
yes e = subst T (sym e) tt

-- ---- a sample that is read under settings in range

-- what is at least zero and has a minus sign is minus zero
minus_zero : (m : ℕ) (e : ℤ) → le (double 0) (fin true m e) ≡ true → is_zero (fin true m e) ≡ true
unfolding le lt eq of_int
minus_zero m e h =
    let none = eqb-true (0 * 1 * down e) (m * up e * 1) (both_hold _ _ h).0 in
    rw (eq-eqb (m * up e * 1) (0 * 1 * down e) (sym none), eq-eqb (m * up e * 1) 0 (omega arith))

pub unsigned_up_to : (most : ℕ) → most ≤ 2 ^ 53 → (x : Float) → between (double 0) (double most) x ≡ true → UpTo most (unsigned x)
unfolding le lt eq of_int
unsigned_up_to most fits x h =
    let both = both_hold (le (double 0) x) (le x (double most)) h in
    by x (is_zero x) refl both.0 both.1
  where
    none : UpTo most (double 0)
    none = up_to_more 0 most (double 0) (double_up_to 0 (lit≤ tt)) (omega arith)

    top : UpTo most (double most)
    top = double_up_to most fits

    below : (y : Float) → NotNegative y → le y (double most) ≡ true → UpTo most y
    below y p l = le_value y (double most) p (not_negative most (double most) top) (yes l) most top

    by : (y : Float) (b : Bool) → is_zero y ≡ b → le (double 0) y ≡ true → le y (double most) ≡ true → UpTo most (pick b (double 0) y)
    by y true z low high = none
    by nan false z low high = absurd (false≢true low)
    by (inf true) false z low high = absurd (false≢true low)
    by (inf false) false z low high = absurd (below (inf false) tt high)
    by (fin true m e) false z low high = absurd (true≢false (sym (minus_zero m e low) ∙ z))
    by (fin false m e) false z low high = below (fin false m e) tt high

vehicle_least : (g : Float) → vehicle_fits g ≡ true → AtLeastOneOver 1_024 g
unfolding of_int div
vehicle_least g h =
    let low = double 1 ⊘ double 1_024 in
    let high = double 1 ⊘ double 16 in
    let both = both_hold (le low g) (le g high) h in
    let inside : T (positive.positive g) = positive.between low g high tt tt (yes both.0) (yes both.1) in
    record { above_zero = inside; least = omega (arith, positive.le→cross low g tt inside (yes both.0)) }

lanes_up_to : (lanes : ℕ) → lanes_fit lanes ≡ true → UpTo 12 (double lanes)
lanes_up_to lanes h =
    let most = leb-true lanes 12 (both_hold (leb 1 lanes) (leb lanes 12) h).1 in
    up_to_more lanes 12 (double lanes) (double_up_to lanes (le_trans most (lit≤ tt))) most

-- what holds of a flow and an occupancy in range holds of the sample that is read from them
of_sample : (fact : Float → Float → Type 0) (g : Float) (lanes : ℕ) (flow occupancy : Float) → (flow_in_range flow ≡ true → occupancy_in_range occupancy ≡ true → fact (unsigned flow) (density g lanes (unsigned occupancy))) → Of fact (sample_of g lanes flow occupancy)
unfolding sample_of
of_sample fact g lanes flow occupancy holds = by (finite flow) (flow_in_range flow) refl (finite occupancy) (occupancy_in_range occupancy) refl
  where
    by : (a b : Bool) → flow_in_range flow ≡ b → (c d : Bool) → occupancy_in_range occupancy ≡ d → Of fact (pick a (pick b (pick c (pick d (Ok (good_sample g lanes flow occupancy)) (Err OccupancyOutOfRange)) (Err OccupancyNotFinite)) (Err FlowOutOfRange)) (Err FlowNotFinite))
    by false b in-flow c d in-occupancy = tt
    by true false in-flow c d in-occupancy = tt
    by true true in-flow false d in-occupancy = tt
    by true true in-flow true false in-occupancy = tt
    by true true in-flow true true in-occupancy = holds in-flow in-occupancy

-- under any settings, the flow of a usable sample is from 0 to 20,000 and is not minus zero
pub good_flow : (g : Float) (lanes : ℕ) (flow occupancy : Float) → Of (λ f d. UpTo 20_000 f) (sample_of g lanes flow occupancy)
good_flow g lanes flow occupancy =
    of_sample (λ f d. UpTo 20_000 f) g lanes flow occupancy (λ in-flow in-occupancy. unsigned_up_to 20_000 (lit≤ tt) flow in-flow)

-- under g and lanes in range, its density is from 0 to 12,288 and is not minus zero: then no usable sample holds minus zero
pub good_sample_lem : (g : Float) (lanes : ℕ) (flow occupancy : Float) → vehicle_fits g ≡ true → lanes_fit lanes ≡ true → Of Usual (sample_of g lanes flow occupancy)
good_sample_lem g lanes flow occupancy vehicle many =
    of_sample Usual g lanes flow occupancy λ in-flow in-occupancy. (
      unsigned_up_to 20_000 (lit≤ tt) flow in-flow,
      mul_up_to 1_024 12 (unsigned occupancy ⊘ g) (double lanes)
          (div_up_to 1 1_024 (unsigned occupancy) g (unsigned_up_to 1 (lit≤ tt) occupancy in-occupancy) (vehicle_least g vehicle) (lit≤ tt))
          (lanes_up_to lanes many)
          (lit≤ tt),
    )

-- ---- the row values of a sound diagram

-- no NaN and nothing negative; plus infinity may be among them
pub record NoNan (values : RowValues) : Type 0 where
  pub v : NotNegative values.v
  pub w : NotNegative values.w
  pub capacity : NotNegative values.capacity
  pub jam : NotNegative values.jam

module _ (period : ℕ) (cell : Float) (fit : cell_settings_fit period cell ≡ true) where
  cell_between : (T (le (double 1 ⊘ double 64) cell)) × (T (le cell (double 8)))
  cell_between =
      let both = both_hold (le (double 1 ⊘ double 64) cell) (le cell (double 8)) (both_hold (within 1 60 period) (cell_fits cell) fit).1 in
      (yes both.0, yes both.1)

  cell_positive : T (positive.positive cell)
  unfolding of_int div
  cell_positive = positive.between (double 1 ⊘ double 64) cell (double 8) tt tt cell_between.0 cell_between.1

  period_positive : T (positive.positive (double period))
  period_positive =
      let both = both_hold (leb 1 period) (leb period 60) (both_hold (within 1 60 period) (cell_fits cell) fit).0 in
      double_positive period (le_trans (leb-true period 60 both.1) (lit≤ tt)) (leb-true 1 period both.0)

  -- 3600 × L lies between two doubles above zero
  hours_positive : T (positive.positive (double 3_600 ⊗ cell))
  unfolding of_int div mul le lt eq
  hours_positive =
      let lowest = double 1 ⊘ double 64 in
      positive.between (double 3_600 ⊗ lowest) (double 3_600 ⊗ cell) (double 3_600 ⊗ double 8) tt tt
      (positive.mul_mono binary64 (double 3_600) (double 3_600) lowest cell tt tt tt cell_positive tt cell_between.0)
      (positive.mul_mono binary64 (double 3_600) (double 3_600) cell (double 8) tt tt cell_positive tt tt cell_between.1)

  share_sign : (speed : Float) → NotNegative speed → NotNegative (speed_share speed period cell)
  share_sign speed h =
      mul_sign ((speed ⊗ double period) ⊘ (double 3_600 ⊗ cell)) (double 65_536)
      (div_sign (speed ⊗ double period) (double 3_600 ⊗ cell) (mul_sign speed (double period) h period_positive) hours_positive)
      (double_positive 65_536 (lit≤ tt) (lit< tt))

  pub values_no_nan : (diagram : Diagram) → Sound diagram → NoNan (row_values diagram period cell)
  values_no_nan diagram h =
      record {
        v = share_sign diagram.speed (above_sign diagram.speed h.speed);
        w = share_sign diagram.wave (above_sign diagram.wave h.wave);
        capacity =
            div_sign ((diagram.capacity ⊗ double period) ⊗ double 1_000) (double 3_600)
            (mul_sign (diagram.capacity ⊗ double period) (double 1_000)
            (mul_sign diagram.capacity (double period) (not_negative 20_000 diagram.capacity h.capacity) period_positive)
            (double_positive 1_000 (lit≤ tt) (lit< tt)))
            (double_positive 3_600 (lit≤ tt) (lit< tt));
        jam =
            mul_sign (diagram.jam ⊗ cell) (double 1_000) (mul_sign diagram.jam cell h.jam cell_positive)
            (double_positive 1_000 (lit≤ tt) (lit< tt));
      }

-- ---- the answers

stretch-length : (start end : ℕ) (all : List Reading) → length (take (end - start) (drop start all)) ≤ length all
stretch-length start end all = simp (length-take, length-drop) (omega arith)

module _ (settings : Settings) (flow occupancy : List Float) {diagram : Diagram} (e : Ok diagram ≡ fit_of settings flow occupancy) where
  abbrev all : List Reading
  all = samples settings flow occupancy

  is : (accepted ≡ answer (fit_checks settings flow occupancy)) × (diagram ≡ fitted_diagram settings flow occupancy)
  is = asked_by (answer (fit_checks settings flow occupancy)) (fitted_diagram settings flow occupancy) e

  after_none : (Passes 1 (λ _. lengths_fit settings flow occupancy)) × (or_later (samples_usable settings flow occupancy) (or_later (diagram_fits settings flow occupancy) accepted) ≡ accepted)
  after_none = accepted_passes (lengths (lengths_fit settings flow occupancy)) _ (sym is.0)

  after_1 : or_later (diagram_fits settings flow occupancy) accepted ≡ accepted
  after_1 = (accepted_passes (samples_usable settings flow occupancy) _ after_none.1).1

  settings_fit_lem : settings_fit settings ≡ true
  settings_fit_lem = settings_in_range settings flow occupancy is.0

  fits_is : can_be_fitted (free_of settings flow occupancy) all ≡ true
  fits_is = (accepted_passes (diagram_fits settings flow occupancy) _ after_1).0 0 (lit< tt)

  few : length all ≤ 65_536
  few = rw (samples_length settings flow occupancy) (lengths_fit_lem settings flow occupancy (after_none.0 0 (lit< tt))).few

  usual : Each Usual all
  unfolding samples
  usual =
      let outer = both_hold (vehicle_fits settings.g && lanes_fit settings.lanes) _ settings_fit_lem in
      let inner = both_hold (vehicle_fits settings.g) _ outer.0 in
      each_built Usual (length flow) (sample_at settings flow occupancy) (λ i. good_sample_lem _ _ _ _ inner.0 inner.1)

  -- a fitted diagram is sound
  pub fitted_sound : Sound diagram
  fitted_sound =
      rw is.1
      (sound (free_of settings flow occupancy) all (le_trans (stretch-length settings.start settings.end all) few) few
      (each_take Usual (settings.end - settings.start) (drop settings.start all) (each_drop Usual settings.start all usual)) usual fits_is)

  -- number 11 is never asked of a NaN
  pub fitted_no_nan : NoNan (row_values diagram settings.period settings.cell)
  fitted_no_nan =
      values_no_nan settings.period settings.cell (cell_in_range settings flow occupancy is.0) diagram fitted_sound

-- ---- a row that was made, in a cell without ramps and without a drop

abbrev without_ramps : RowNumbers → Row
without_ramps numbers =
    record {
      v = numbers.v;
      w = numbers.w;
      capacity = numbers.capacity;
      jam = numbers.jam;
      on = 0;
      x = 0;
      c = 0;
      off = 0;
      b = 0;
      dropped = numbers.capacity;
    }

-- what is rounded down is at least 1
rounded_least : (x : Float) (limit : ℕ) → InLimits limit x → 1 ≤ rounded_down x
rounded_least x limit inside = (le-div_iff_mul-le (denominator_pos x)).1 (omega (arith, inside.least))

number_within : (limit : ℕ) (x : Float) → limit ≤ 2 ^ 53 → 0 < limit → value_fits limit x ≡ true → within 1 limit (rounded_down x) ≡ true
number_within limit x fits p h =
    let inside = in_limits limit fits p x h in
    rw (le-leb 1 (rounded_down x) (rounded_least x limit inside), le-leb (rounded_down x) limit (rounded_most x limit inside))

-- F is in its own range, as a dropped capacity
capacity_within : (x : Float) → value_fits 1_000_000 x ≡ true → within 1 (rounded_down x) (rounded_down x) ≡ true
capacity_within x h =
    let inside = in_limits 1_000_000 (lit≤ tt) (lit< tt) x h in
    rw (le-leb 1 (rounded_down x) (rounded_least x 1_000_000 inside), le-leb (rounded_down x) (rounded_down x) (omega arith))

-- values that fit are rounded down to numbers in range
numbers_in_range : (values : RowValues) → Passes 4 (values_fit values).test → row_in_range (without_ramps (row_numbers values)) ≡ true
unfolding row_in_range row_numbers
numbers_in_range values fit =
    rw
    (number_within 65_536 values.v (lit≤ tt) (lit< tt) (fit 0 (lit< tt)), number_within 65_536 values.w (lit≤ tt) (lit< tt) (fit 1 (lit< tt)), number_within 1_000_000 values.capacity (lit≤ tt) (lit< tt) (fit 2 (lit< tt)), number_within 4_000_000 values.jam (lit≤ tt) (lit< tt) (fit 3 (lit< tt)), capacity_within values.capacity (fit 2 (lit< tt)))

pub made_in_range : (diagram : Diagram) (period : ℕ) (cell : Float) {numbers : RowNumbers} → Ok numbers ≡ row_made diagram period cell → row_in_range (without_ramps numbers) ≡ true
made_in_range diagram period cell e =
    let values = row_values diagram period cell in
    let made = asked_by (answer (making_checks diagram period cell)) (row_numbers values) e in
    let after = accepted_passes (setting_usable period cell) _ (sym made.0) in
    rw made.1 (numbers_in_range values (accepted_passes (values_fit values) _ after.1).0)

pub calibrated_in_range : (settings : Settings) (flow occupancy : List Float) {calibrated : Calibrated} → Ok calibrated ≡ calibration_of settings flow occupancy → row_in_range (without_ramps calibrated.row) ≡ true
calibrated_in_range settings flow occupancy e =
    let values = fitted_values settings flow occupancy in
    let made = asked_by (answer (calibration_checks settings flow occupancy)) (record { diagram = fitted_diagram settings flow occupancy; row = row_numbers values }) e in
    let after_1 = accepted_passes (lengths (lengths_fit settings flow occupancy)) _ (sym made.0) in
    let after-9 = accepted_passes (samples_usable settings flow occupancy) _ after_1.1 in
    let after-10 = accepted_passes (diagram_fits settings flow occupancy) _ after-9.1 in
    rw made.1 (numbers_in_range values (accepted_passes (values_fit values) _ after-10.1).0)
