-- Each list of checks that a public promise is made of gives the lowest number that applies, at its smallest place; where one number is asked of two
-- tables in turn, the lowest number. Assumes nothing.
use Rattle.std.specs.Prelude.{Err}
use Prim.Native.Nat.{ℕ, ◌≤◌}
use mathlib.Core.Path.{◌≡◌, refl}
use mathlib.Core.Bool.{Bool, ◌&&◌}
use mathlib.Core.List.{List, [], ◌∷◌, ◌++◌}
use native.Mathlib.Omega.{arith}
use lib.Dec.{eqb}
use lib.Ieee.{Float}
use lib.ListN.{length}
use Rattle.refusals.specs.declared.Refusal.{Refusal}
use Rattle.refusals.specs.declared.Refusal.TheVariants.{Pieces, Groups}
use Rattle.refusals.specs.Checks.{Check, lengths, answer}
use Rattle.layout.specs.Layout.{cells}
use Rattle.layout.specs.Sheet.{sheet_length}
use Rattle.layout.specs.Corridor.{Corridor, cells_of}
use Rattle.accept_tables.specs.Tables.{rows_in_range, rooms_shared, ramps_once, table_checks, both_tables_checks}
use Rattle.accept_rows.specs.Acceptance.{state_lengths_fit, row_lengths_fit, state_in_range, demand_in_range, queues_hold, state_numbers, state_checks, row_checks, demand_numbers, demand_checks, state_alone_checks}
use Rattle.period.specs.Period.{period_checks}
use Rattle.period_run.specs.Run.{run_lists_fit, run_checks}
use Rattle.program_steps.specs.Demand.{follow_lists_fit, follow_checks}
use Rattle.recut_checks.specs.Pieces.{pieces_number}
use Rattle.recut_checks.specs.Change.{change_checks}
use Rattle.recut.specs.Recut.{recut_checks}
use Rattle.join.specs.Join.{join_checks}
use Rattle.calibrate_rows.specs.declared.Diagram.{Diagram}
use Rattle.calibrate_rows.specs.declared.RowValues.{RowValues}
use Rattle.calibrate_rows.specs.Rows.{setting_usable, values_fit, making_checks}
use Rattle.calibrate_fit.specs.declared.Settings.{Settings}
use Rattle.calibrate_fit.specs.Calibration.{samples_usable, diagram_fits, fit_checks, calibration_checks}
use Rattle.refusals_laws.specs.Lowest.{LowestNumber, SmallestPlace}
use Rattle.refusals_laws.proofs.Lowest.{Numbered, Ascending, lowest_number, smallest_place}

-- the number of each check, and that its places ascend
one : (fit : Bool) → Numbered 1 (lengths fit)
one fit = record { numbered = λ p. refl; ascends = λ p q h. omega arith }

two : (table : List ℕ) → Numbered 2 (rows_in_range table)
two table = record { numbered = λ p. refl; ascends = λ p q h. omega arith }

three : (table : List ℕ) → Numbered 3 (rooms_shared table)
three table = record { numbered = λ p. refl; ascends = λ p q h. omega arith }

four : (table : List ℕ) → Numbered 4 (ramps_once table)
four table = record { numbered = λ p. refl; ascends = λ p q h. omega arith }

five : (c : Corridor) → Numbered 5 (state_in_range c)
five c = record { numbered = λ p. refl; ascends = λ p q h. h }

six : (c : Corridor) (demand : List ℕ) → Numbered 6 (demand_in_range c demand)
six c demand = record { numbered = λ p. refl; ascends = λ p q h. h }

seven : (c : Corridor) (demand : List ℕ) → Numbered 7 (queues_hold c demand)
seven c demand = record { numbered = λ p. refl; ascends = λ p q h. h }

nine : (settings : Settings) (flow occupancy : List Float) → Numbered 9 (samples_usable settings flow occupancy)
nine settings flow occupancy = record { numbered = λ p. refl; ascends = λ p q h. h }

ten : (settings : Settings) (flow occupancy : List Float) → Numbered 10 (diagram_fits settings flow occupancy)
ten settings flow occupancy = record { numbered = λ p. refl; ascends = λ p q h. omega arith }

eight : (whole pieces parts : List ℕ) → Numbered 8 (pieces_number Pieces whole pieces parts)
eight whole pieces parts = record { numbered = λ p. refl; ascends = λ p q h. h }

fourteen : (whole pieces parts : List ℕ) → Numbered 14 (pieces_number Groups whole pieces parts)
fourteen whole pieces parts = record { numbered = λ p. refl; ascends = λ p q h. h }

nine_alone : (period : ℕ) (cell : Float) → Numbered 9 (setting_usable period cell)
nine_alone period cell = record { numbered = λ p. refl; ascends = λ p q h. h }

eleven : (values : RowValues) → Numbered 11 (values_fit values)
eleven values = record { numbered = λ p. refl; ascends = λ p q h. omega arith }

-- 1 of some lists and 2 to 5, and with 6 and 7 after them
module _ (fit : Bool) (c : Corridor) where
  abbrev to_five : List Check
  to_five = lengths fit ∷ state_numbers c

  one_to_five : {refusal : Refusal} → answer to_five ≡ Err refusal → SmallestPlace to_five refusal
  one_to_five =
      smallest_place 1 (1 ∷ 2 ∷ 3 ∷ 4 ∷ 5 ∷ []) to_five
      (omega arith, (one fit, (omega arith, (two c.table, (omega arith, (three c.table, (omega arith, (four c.table, (omega arith, (five c, tt))))))))))

  one_to_seven : (demand : List ℕ) {refusal : Refusal} → answer (to_five ++ demand_numbers c demand) ≡ Err refusal → SmallestPlace (to_five ++ demand_numbers c demand) refusal
  one_to_seven demand =
      smallest_place 1 (1 ∷ 2 ∷ 3 ∷ 4 ∷ 5 ∷ 6 ∷ 7 ∷ []) (to_five ++ demand_numbers c demand) (
        omega arith,
        (
          one fit,
          (
            omega arith,
            (
              two c.table,
              (
                omega arith,
                (
                  three c.table,
                  (
                    omega arith,
                    (
                      four c.table,
                      (
                        omega arith,
                        (
                          five c,
                          (omega arith, (six c demand, (omega arith, (seven c demand, tt)))),
                        ),
                      ),
                    ),
                  ),
                ),
              ),
            ),
          ),
        ),
      )

-- The lists, each with its numbers.

pub table_lowest : (table : List ℕ) {refusal : Refusal} → answer (table_checks table) ≡ Err refusal → SmallestPlace (table_checks table) refusal
table_lowest table =
    smallest_place 1 (1 ∷ 2 ∷ 3 ∷ 4 ∷ []) (table_checks table)
    (omega arith, (one _, (omega arith, (two table, (omega arith, (three table, (omega arith, (four table, tt))))))))

-- of two tables in turn the number is the lowest
pub both_tables_lowest : (first second : List ℕ) {refusal : Refusal} → answer (both_tables_checks first second) ≡ Err refusal → LowestNumber (both_tables_checks first second) refusal
both_tables_lowest first second =
    lowest_number 1 (1 ∷ 2 ∷ 2 ∷ 3 ∷ 3 ∷ 4 ∷ 4 ∷ []) (both_tables_checks first second)
    (omega arith, (one _, (omega arith, (two first, (omega arith, (two second, (omega arith, (three first, (omega arith, (three second, (omega arith, (four first, (omega arith, (four second, tt))))))))))))))

module _ (c : Corridor) {refusal : Refusal} where
  pub state_lowest : answer (state_checks c) ≡ Err refusal → SmallestPlace (state_checks c) refusal
  state_lowest = one_to_five (state_lengths_fit c) c

  pub state_alone_lowest : answer (state_alone_checks c) ≡ Err refusal → SmallestPlace (state_alone_checks c) refusal
  state_alone_lowest = smallest_place 1 (1 ∷ 5 ∷ []) (state_alone_checks c) (omega arith, (one _, (omega arith, (five c, tt))))

  pub run_lowest : (demand sheet : List ℕ) → answer (run_checks c demand sheet) ≡ Err refusal → SmallestPlace (run_checks c demand sheet) refusal
  run_lowest demand sheet = one_to_five (state_lengths_fit c && run_lists_fit (cells_of c) demand sheet) c

  pub follow_lowest : (row sheet out : List ℕ) → answer (follow_checks c row sheet out) ≡ Err refusal → SmallestPlace (follow_checks c row sheet out) refusal
  unfolding follow_checks
  follow_lowest row sheet out = one_to_five (state_lengths_fit c && follow_lists_fit (cells_of c) row sheet out) c

  module _ (demand : List ℕ) where
    pub demand_lowest : answer (demand_checks c demand) ≡ Err refusal → SmallestPlace (demand_checks c demand) refusal
    demand_lowest =
        smallest_place 1 (1 ∷ 6 ∷ 7 ∷ []) (demand_checks c demand)
        (omega arith, (one _, (omega arith, (six c demand, (omega arith, (seven c demand, tt))))))

    -- 6 and 7 at a row of a run
    pub row_of_a_run_lowest : answer (demand_numbers c demand) ≡ Err refusal → SmallestPlace (demand_numbers c demand) refusal
    row_of_a_run_lowest = smallest_place 6 (6 ∷ 7 ∷ []) (demand_numbers c demand) (omega arith, (six c demand, (omega arith, (seven c demand, tt))))

    pub row_lowest : answer (row_checks c demand) ≡ Err refusal → SmallestPlace (row_checks c demand) refusal
    row_lowest = one_to_seven (row_lengths_fit c demand) c demand

    pub period_lowest : (sheet : List ℕ) → answer (period_checks c demand sheet) ≡ Err refusal → SmallestPlace (period_checks c demand sheet) refusal
    period_lowest sheet = one_to_seven (row_lengths_fit c demand && eqb (length sheet) (sheet_length (cells_of c))) c demand

  -- of two tables in turn the number is the lowest, and a last one comes after 5
  change_lowest : (counts : List ℕ) (many : ℕ) (new list : List ℕ) {last : Check} {number : ℕ} → 5 ≤ number → Numbered number last
      → let checks = change_checks c counts many new list ++ (last ∷ []) in answer checks ≡ Err refusal → LowestNumber checks refusal
  change_lowest counts many new list {last} {number} after numbered =
      lowest_number 1 (1 ∷ 2 ∷ 2 ∷ 3 ∷ 3 ∷ 4 ∷ 4 ∷ 5 ∷ number ∷ []) (change_checks c counts many new list ++ (last ∷ []))
      (omega arith, (one _, (omega arith, (two c.table, (omega arith, (two new, (omega arith, (three c.table, (omega arith, (three new, later))))))))))
    where
      later : Ascending 3 (4 ∷ 4 ∷ 5 ∷ number ∷ []) (ramps_once c.table ∷ ramps_once new ∷ state_in_range c ∷ last ∷ [])
      later = (omega arith, (four c.table, (omega arith, (four new, (omega arith, (five c, (after, (numbered, tt))))))))

  pub recut_lowest : (pieces new list : List ℕ) → answer (recut_checks c pieces new list) ≡ Err refusal → LowestNumber (recut_checks c pieces new list) refusal
  recut_lowest pieces new list = change_lowest pieces (cells_of c) new list (omega arith) (eight c.table pieces new)

  pub join_lowest : (groups new list : List ℕ) → answer (join_checks c groups new list) ≡ Err refusal → LowestNumber (join_checks c groups new list) refusal
  join_lowest groups new list = change_lowest groups (cells new) new list (omega arith) (fourteen new groups c.table)

module _ {refusal : Refusal} where
  pub fit_lowest : (settings : Settings) (flow occupancy : List Float) → answer (fit_checks settings flow occupancy) ≡ Err refusal → SmallestPlace (fit_checks settings flow occupancy) refusal
  fit_lowest settings flow occupancy =
      smallest_place 1 (1 ∷ 9 ∷ 10 ∷ []) (fit_checks settings flow occupancy)
      (omega arith, (one _, (omega arith, (nine settings flow occupancy, (omega arith, (ten settings flow occupancy, tt))))))

  pub making_lowest : (diagram : Diagram) (period : ℕ) (cell : Float) → answer (making_checks diagram period cell) ≡ Err refusal → SmallestPlace (making_checks diagram period cell) refusal
  making_lowest diagram period cell =
      smallest_place 9 (9 ∷ 11 ∷ []) (making_checks diagram period cell) (omega arith, (nine_alone period cell, (omega arith, (eleven _, tt))))

  pub calibration_lowest : (settings : Settings) (flow occupancy : List Float) → answer (calibration_checks settings flow occupancy) ≡ Err refusal → SmallestPlace (calibration_checks settings flow occupancy) refusal
  calibration_lowest settings flow occupancy =
      smallest_place 1 (1 ∷ 9 ∷ 10 ∷ 11 ∷ []) (calibration_checks settings flow occupancy)
      (omega arith, (one _, (omega arith, (nine settings flow occupancy, (omega arith, (ten settings flow occupancy, (omega arith, (eleven _, tt))))))))
