-- Rules, "Worked figures": the starred ones as one list of cases, and the test that each must pass.
use Rattle.std.specs.Prelude.{ℕ, Bool, true, false, ◌&&◌, List, [], ◌∷◌, ◌++◌, ◌==◌}
use Rattle.refusals.specs.Checks.{answer}
use Rattle.layout.specs.Corridor.{Corridor, corridor_of}
use Rattle.accept_rows.specs.Vehicles.{vehicles}
use Rattle.accept_rows.specs.Acceptance.{row_checks}
use Rattle.period.specs.Sharing.{Sharing}
use Rattle.period.specs.Period.{sheet_of, state_after, corridor_after}
use Rattle.ledger.specs.Account.{row_account}
use Rattle.period_run.specs.Run.{is_accepted}
use Rattle.recut.specs.Recut.{new_state, recut_checks}

pub data Figure : Type 0 where
  -- a period of a corridor and a demand row, with the sheet and the state after it
  period : Corridor → List ℕ → List ℕ → List ℕ → Figure
  -- the vehicles before a period, the demand, what left the road, and the vehicles after it
  balance : Corridor → List ℕ → ℕ → ℕ → ℕ → ℕ → Figure
  -- a cell of jam count 10 that holds n, cut into pieces of 3, 3 and 4, with their vehicles
  pieces : ℕ → List ℕ → Figure

unfoldable pub same : List ℕ → List ℕ → Bool
same [] [] = true
same [] (x ∷ xs) = false
same (x ∷ xs) [] = false
same (x ∷ xs) (y ∷ ys) = x == y && same xs ys

-- a row without ramps and without a drop, of the given jam count
unfoldable pub plain : ℕ → List ℕ
plain J = 32768 ∷ 16384 ∷ 2000 ∷ J ∷ 0 ∷ 0 ∷ 0 ∷ 0 ∷ 0 ∷ 2000 ∷ []

unfoldable pub thirds : List ℕ
thirds = plain 3 ++ plain 3 ++ plain 4

-- one cell of jam count 10 that holds n
unfoldable pub of_ten : ℕ → Corridor
of_ten n = corridor_of (plain 10) (0 ∷ n ∷ 0 ∷ 0 ∷ [])

-- the period or the re-cut is accepted, and gives those numbers
unfoldable pub holds : Sharing → Figure → Bool
holds way (period c demand sheet after) =
    is_accepted (answer (row_checks c demand)) && same (sheet_of way c demand) sheet && same (state_after way c demand) after
holds way (balance c demand before brought left after) =
    (vehicles c == before)
    && (row_account way c demand).brought == brought
    && (row_account way c demand).out == left
    && vehicles (corridor_after way c demand) == after
holds way (pieces n shares) =
    is_accepted (answer (recut_checks (of_ten n) (3 ∷ []) thirds (0 ∷ 0 ∷ 0 ∷ 0 ∷ 0 ∷ 0 ∷ 0 ∷ 0 ∷ 0 ∷ 0 ∷ [])))
    && same (new_state (of_ten n) (3 ∷ []) thirds) (0 ∷ shares ++ (0 ∷ 0 ∷ 0 ∷ 0 ∷ 0 ∷ 0 ∷ []))

unfoldable pub all_hold : Sharing → List Figure → Bool
all_hold way [] = true
all_hold way (figure ∷ figures) = holds way figure && all_hold way figures

-- a row of the printed example, with a dropped capacity; in the example that is F
unfoldable pub road_dropping : ℕ → List ℕ
road_dropping dropped = 32768 ∷ 16384 ∷ 2000 ∷ 10000 ∷ 0 ∷ 0 ∷ 0 ∷ 0 ∷ 0 ∷ dropped ∷ []

unfoldable pub road : List ℕ
road = road_dropping 2000

-- one cell with v 32,768 and an off-ramp, of capacity F and split b
unfoldable pub off_ramp : ℕ → ℕ → List ℕ
off_ramp F b = 32768 ∷ 16384 ∷ F ∷ 10000 ∷ 0 ∷ 0 ∷ 0 ∷ 7 ∷ b ∷ F ∷ []

unfoldable pub starred : List Figure
starred =
    -- the printed period: entry flow 500, f 1,500 and 2,000, both congested
    period (corridor_of (road ++ road) (500 ∷ 8000 ∷ 4000 ∷ 0 ∷ 0 ∷ 0 ∷ 0 ∷ [])) (300 ∷ 0 ∷ 0 ∷ 0 ∷ 0 ∷ []) (500 ∷ 1500 ∷ 2000 ∷ 0 ∷ 0 ∷ 0 ∷ 0 ∷ 1 ∷ 1 ∷ []) (300 ∷ 7000 ∷ 3500 ∷ 0 ∷ 0 ∷ 1 ∷ 1 ∷ [])
    -- 12,500 + 300 − 2,000 = 10,800
    ∷ balance (corridor_of (road ++ road) (500 ∷ 8000 ∷ 4000 ∷ 0 ∷ 0 ∷ 0 ∷ 0 ∷ [])) (300 ∷ 0 ∷ 0 ∷ 0 ∷ 0 ∷ []) 12500 300 2000 10800
    -- n 1,000, b 16,384, F 1,000,000: f 375, s 125, n 500, free
    ∷ period (corridor_of (off_ramp 1000000 16384) (0 ∷ 1000 ∷ 0 ∷ 0 ∷ [])) (0 ∷ 0 ∷ 0 ∷ []) (0 ∷ 375 ∷ 125 ∷ 0 ∷ 0 ∷ []) (0 ∷ 500 ∷ 0 ∷ 0 ∷ [])
    -- with F 100: f 100, s 33, n 867, congested
    ∷ period (corridor_of (off_ramp 100 16384) (0 ∷ 1000 ∷ 0 ∷ 0 ∷ [])) (0 ∷ 0 ∷ 0 ∷ []) (0 ∷ 100 ∷ 33 ∷ 0 ∷ 1 ∷ []) (0 ∷ 867 ∷ 0 ∷ 1 ∷ [])
    -- given o 700: s 500, f 0, n 500, free
    ∷ period (corridor_of (off_ramp 1000000 0) (0 ∷ 1000 ∷ 0 ∷ 0 ∷ [])) (0 ∷ 0 ∷ 700 ∷ []) (0 ∷ 0 ∷ 500 ∷ 0 ∷ 0 ∷ []) (0 ∷ 500 ∷ 0 ∷ 0 ∷ [])
    -- a cell filled to the brim: entry flow 750, r 250, n 10,000 exactly, Q 4,250, q 1,750
    ∷ period (corridor_of (1 ∷ 49152 ∷ 1 ∷ 10000 ∷ 5 ∷ 16384 ∷ 1000000 ∷ 0 ∷ 0 ∷ 1 ∷ []) (0 ∷ 9000 ∷ 2000 ∷ 0 ∷ [])) (5000 ∷ 0 ∷ 0 ∷ []) (750 ∷ 0 ∷ 0 ∷ 250 ∷ 0 ∷ []) (4250 ∷ 10000 ∷ 1750 ∷ 0 ∷ [])
    -- v 65,535, n 1: D is 0, so nothing flows
    ∷ period (corridor_of (65535 ∷ 16384 ∷ 1000 ∷ 10000 ∷ 0 ∷ 0 ∷ 0 ∷ 0 ∷ 0 ∷ 1000 ∷ []) (0 ∷ 1 ∷ 0 ∷ 0 ∷ [])) (0 ∷ 0 ∷ 0 ∷ []) (0 ∷ 0 ∷ 0 ∷ 0 ∷ 0 ∷ []) (0 ∷ 1 ∷ 0 ∷ 0 ∷ [])
    -- F 2,000, dropped capacity 1,900, n 3,900, mode 0 before: f 1,950, n 1,950, free
    ∷ period (corridor_of (road_dropping 1900) (0 ∷ 3900 ∷ 0 ∷ 0 ∷ [])) (0 ∷ 0 ∷ 0 ∷ []) (0 ∷ 1950 ∷ 0 ∷ 0 ∷ 0 ∷ []) (0 ∷ 1950 ∷ 0 ∷ 0 ∷ [])
    -- mode 1 before: f 1,900, n 2,000, congested
    ∷ period (corridor_of (road_dropping 1900) (0 ∷ 3900 ∷ 0 ∷ 1 ∷ [])) (0 ∷ 0 ∷ 0 ∷ []) (0 ∷ 1900 ∷ 0 ∷ 0 ∷ 1 ∷ []) (0 ∷ 2000 ∷ 0 ∷ 1 ∷ [])
    -- pieces J 3, 3, 4 of 10
    ∷ pieces 7 (2 ∷ 2 ∷ 3 ∷ [])
    ∷ pieces 1 (0 ∷ 0 ∷ 1 ∷ [])
    ∷ pieces 10 (3 ∷ 3 ∷ 4 ∷ [])
    ∷ []
