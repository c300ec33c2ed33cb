-- Every place fits its half of a word: a check's refusals have places that its lengths bound. Assumes nothing.
use Rattle.std.specs.Prelude.{Ok, Err}
use Prim.Native.Nat.{ℕ, ◌≤◌, ◌<◌}
use mathlib.Core.Path.{◌≡◌, refl}
use mathlib.Core.Bool.{Bool, true, false, ◌&&◌}
use mathlib.Core.List.{List, [], ◌∷◌, ◌++◌}
use native.Mathlib.Omega.{arith}
use borrow.Author.Tests.{ltb-true}
use lib.Dec.{ltb, eqb}
use lib.Ieee.{Float}
use lib.ListN.{length}
use Rattle.whole.specs.Search.{pick}
use Rattle.whole.proofs.Search.{is_first}
use Rattle.refusals.specs.declared.Refusal.TheVariants.{Pieces, Groups}
use Rattle.layout.specs.Layout.{cells}
use Rattle.refusals.specs.Refusals.{place_of}
use Rattle.refusals.specs.Checks.{Answer, accepted, Check, least, or_later, answer, when_accepted, lengths}
use Rattle.accept_tables.specs.Tables.{table_length_fits, table_numbers, table_checks, both_tables}
use Rattle.accept_rows.specs.Acceptance.{state_lengths_fit, row_lengths_fit, state_in_range, state_numbers, demand_numbers, state_checks, row_checks}
use Rattle.refusals.proofs.Answers.{accepted_passes}
use Rattle.whole.proofs.Tests.{both_hold}
use Rattle.accept_rows.proofs.Lengths.{cells_fit, cells_most}
use Rattle.period.specs.Period.{period_checks}
use Rattle.layout.specs.Sheet.{sheet_length}
use Rattle.period_run.specs.Run.{rows, demand_row, corridor_after_periods, run_lists_fit, run_checks, is_accepted, row_answer, completed, rows_answer, periods_run, run_answer}
use Rattle.period.specs.Sharing.{Sharing}
use Rattle.period_run.proofs.Rows.{lists_fit_lem, table_stays}
use Rattle.recut_checks.specs.Pieces.{pieces_number}
use Rattle.recut_checks.specs.Change.{change_lists_fit, change_checks}
use Rattle.recut.specs.Recut.{recut_checks}
use Rattle.join.specs.Join.{join_checks}
use Rattle.calibrate_rows.specs.Rows.{values_fit}
use Rattle.calibrate_fit.specs.declared.Settings.{Settings}
use Rattle.calibrate_fit.specs.Calibration.{lengths_fit, samples_usable, diagram_fits, fitted_values, calibration_checks}
use Rattle.calibrate_fit.proofs.Answers.{lengths_fit_lem}
use Rattle.figwimple.specs.Words.{PLACES}
use Rattle.figwimple.specs.Private.{Placed}
use Rattle.layout.specs.Corridor.{Corridor, cells_of}

-- each refusal of each check has a place that fits
abbrev Each : List Check → Type 0
Each [] = Unit
Each (check ∷ checks) = ((i : ℕ) → i < check.places → place_of (check.refusal i) < PLACES) × Each checks

-- then so has the answer
placed : (checks : List Check) → Each checks → Placed (answer checks)
unfolding or_later
placed [] each = tt
placed (check ∷ checks) each = by (ltb (least check) check.places) refl (placed checks each.1)
  where
    by : (fails : Bool) → ltb (least check) check.places ≡ fails → Placed (answer checks) → Placed (pick fails (Err (check.refusal (least check))) (answer checks))
    by true h later = each.0 (least check) (ltb-true (least check) check.places h)
    by false h later = later

-- lengths that fit bound the places of the checks after them
behind_lengths : (fit : Bool) (checks : List Check) → (fit ≡ true → Each checks) → Placed (answer (lengths fit ∷ checks))
unfolding or_later
behind_lengths true checks each = placed checks (each refl)
behind_lengths false checks each = omega arith

each_of_both : (first later : List Check) → Each first → Each later → Each (first ++ later)
each_of_both [] later one two = two
each_of_both (check ∷ first) later one two = (one.0, each_of_both first later one.1 two)

-- The checks of tables, states and demand rows

module _ (table : List ℕ) (few : cells table ≤ 512) where
  of_table : Each (table_numbers table)
  of_table = (λ i h. omega arith, (λ i h. omega arith, (λ k h. omega arith, tt)))

module _ (c : Corridor) (few : cells_of c ≤ 512) where
  of_state : Each (state_numbers c)
  of_state = each_of_both (table_numbers c.table) (state_in_range c ∷ []) (of_table c.table few) (λ p h. omega arith, tt)

  of_demand : (demand : List ℕ) → Each (demand_numbers c demand)
  of_demand demand = (λ p h. omega arith, (λ p h. omega arith, tt))

  of_row : (demand : List ℕ) → Each (state_numbers c ++ demand_numbers c demand)
  of_row demand = each_of_both (state_numbers c) (demand_numbers c demand) of_state (of_demand demand)

few_under_row : (c : Corridor) (demand : List ℕ) → row_lengths_fit c demand ≡ true → cells_of c ≤ 512
few_under_row c demand e = cells_most c (both_hold (state_lengths_fit c) _ e).0

pub table_placed : (table : List ℕ) → Placed (answer (table_checks table))
table_placed table = behind_lengths (table_length_fits table) (table_numbers table) λ e. of_table table (cells_fit table e).most

pub state_placed : (c : Corridor) → Placed (answer (state_checks c))
state_placed c = behind_lengths (state_lengths_fit c) (state_numbers c) λ e. of_state c (cells_most c e)

pub row_placed : (c : Corridor) (demand : List ℕ) → Placed (answer (row_checks c demand))
row_placed c demand =
    behind_lengths (row_lengths_fit c demand) (state_numbers c ++ demand_numbers c demand) λ e. of_row c (few_under_row c demand e) demand

-- A period and a run

pub period_placed : (c : Corridor) (demand sheet : List ℕ) → Placed (answer (period_checks c demand sheet))
period_placed c demand sheet =
    behind_lengths (row_lengths_fit c demand && eqb (length sheet) (sheet_length (cells_of c))) (state_numbers c ++ demand_numbers c demand)
    λ e. of_row c (few_under_row c demand (both_hold (row_lengths_fit c demand) _ e).0) demand

module _ (way : Sharing) (c : Corridor) (demand sheet : List ℕ) where
  abbrev checked : Answer
  checked = answer (run_checks c demand sheet)

  few_lists : (state_lengths_fit c && run_lists_fit (cells_of c) demand sheet) ≡ true → (cells_of c ≤ 512) × (rows (cells_of c) demand ≤ 4096)
  few_lists e =
      let both = both_hold (state_lengths_fit c) (run_lists_fit (cells_of c) demand sheet) e in
      (cells_most c both.0, (lists_fit_lem (cells_of c) demand sheet both.1).0)

  checked_fit : checked ≡ accepted → (cells_of c ≤ 512) × (rows (cells_of c) demand ≤ 4096)
  checked_fit e = few_lists ((accepted_passes _ _ e).0 0 (omega arith))

  checked_placed : Placed checked
  checked_placed =
      behind_lengths (state_lengths_fit c && run_lists_fit (cells_of c) demand sheet) (state_numbers c) λ e. of_state c (few_lists e).0

  rows_placed : cells_of c ≤ 512 → Placed (rows_answer way c demand)
  rows_placed few = by (ltb (completed way c demand) (rows (cells_of c) demand))
    where
      at_row : (x : Corridor) → cells_of x ≤ 512 → (row : List ℕ) → Placed (answer (demand_numbers x row))
      at_row x fits row = placed (demand_numbers x row) (of_demand x fits row)

      few_still : cells_of (corridor_after_periods way c demand (completed way c demand)) ≤ 512
      few_still = rw (table_stays way c demand (completed way c demand)) few

      by : (fails : Bool) → Placed (pick fails (row_answer way c demand (completed way c demand)) accepted)
      by true = at_row (corridor_after_periods way c demand (completed way c demand)) few_still (demand_row (cells_of c) demand (completed way c demand))
      by false = tt

  pub run_placed : Placed (run_answer way c demand sheet)
  run_placed = by checked refl checked_placed
    where
      by : (a : Answer) → checked ≡ a → Placed a → Placed (when_accepted a (rows_answer way c demand) a)
      by (Ok done) e fits = rows_placed (checked_fit e).0
      by (Err refusal) e fits = fits

  -- the periods completed fit their part of a word
  pub few_periods : periods_run way c demand sheet ≤ 4096
  few_periods = by checked refl
    where
      by : (a : Answer) → checked ≡ a → when_accepted a (completed way c demand) 0 ≤ 4096
      by (Ok done) e = omega (arith, (checked_fit e).1, (is_first (rows (cells_of c) demand) (λ k. is_accepted (row_answer way c demand k))).reaches)
      by (Err refusal) e = omega arith

-- A re-cut and a join, by their last check

module _ (old : Corridor) (counts : List ℕ) (many : ℕ) (new list : List ℕ) (last : Check) where
  change_placed : (cells_of old ≤ 512 → cells new ≤ 512 → Each (last ∷ [])) → Placed (answer (change_checks old counts many new list ++ (last ∷ [])))
  change_placed each =
      behind_lengths (table_length_fits old.table && table_length_fits new && change_lists_fit old counts many new list) (both_tables old.table new ++ (state_in_range old ∷ last ∷ []))
      λ e. let tables = both_hold (table_length_fits old.table) (table_length_fits new) (both_hold _ (change_lists_fit old counts many new list) e).0 in
      let few = (cells_fit old.table tables.0).most in
      let few_new = (cells_fit new tables.1).most in
      (λ i h. omega arith, (λ i h. omega arith, (λ i h. omega arith, (λ i h. omega arith, (λ i h. omega arith, (λ i h. omega arith, (λ i h. omega arith, each few few_new)))))))

pub recut_placed : (old : Corridor) (pieces new list : List ℕ) → Placed (answer (recut_checks old pieces new list))
recut_placed old pieces new list =
    change_placed old pieces (cells_of old) new list (pieces_number Pieces old.table pieces new) λ few few_new. (λ p h. omega arith, tt)

pub join_placed : (old : Corridor) (groups new list : List ℕ) → Placed (answer (join_checks old groups new list))
join_placed old groups new list =
    change_placed old groups (cells new) new list (pieces_number Groups new groups old.table) λ few few_new. (λ p h. omega arith, tt)

-- A calibration

pub calibration_placed : (settings : Settings) (flow occupancy : List Float) → Placed (answer (calibration_checks settings flow occupancy))
calibration_placed settings flow occupancy =
    behind_lengths (lengths_fit settings flow occupancy) (samples_usable settings flow occupancy ∷ diagram_fits settings flow occupancy ∷ values_fit (fitted_values settings flow occupancy) ∷ [])
    λ e. let few = (lengths_fit_lem settings flow occupancy e).few in (λ i h. omega arith, (λ i h. omega arith, (λ i h. omega arith, tt)))
