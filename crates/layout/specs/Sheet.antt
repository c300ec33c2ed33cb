-- Rules, "One period": where each number stands in a flow sheet of n cells: entry flow, then all f, all s, all r, all modes.
use Rattle.std.specs.Prelude.{ℕ, suc, ◌+◌, ◌*◌, List, [], ◌∷◌, get_or, set}
use Rattle.layout.specs.Laid.{laid}

abbrev pub sheet_length : ℕ → ℕ
sheet_length n = 4 * n + 1

-- the flow out of a position: the entry's at 0, f of the cell of index i at i + 1
abbrev pub flow_in : List ℕ → ℕ → ℕ
flow_in sheet position = get_or sheet position 0

abbrev pub off_flow_in : ℕ → List ℕ → ℕ → ℕ
off_flow_in n sheet i = get_or sheet (1 + n + i) 0

abbrev pub on_flow_in : ℕ → List ℕ → ℕ → ℕ
on_flow_in n sheet i = get_or sheet (1 + n + n + i) 0

abbrev pub mode_in : ℕ → List ℕ → ℕ → ℕ
mode_in n sheet i = get_or sheet (1 + n + n + n + i) 0

abbrev pub sheet_columns : (ℕ → ℕ) → (ℕ → ℕ) → (ℕ → ℕ) → (ℕ → ℕ) → List (ℕ → ℕ)
sheet_columns flow off on mode = (λ i. flow (suc i)) ∷ off ∷ on ∷ mode ∷ []

-- the sheet with the flow out of each position, and s, r and the mode of each cell
unfoldable pub sheet_from : ℕ → (ℕ → ℕ) → (ℕ → ℕ) → (ℕ → ℕ) → (ℕ → ℕ) → List ℕ
sheet_from n flow off on mode = laid n (flow 0) (sheet_columns flow off on mode)

-- the sheet with one number stored
abbrev pub with_flow : List ℕ → ℕ → ℕ → List ℕ
with_flow sheet position f = set sheet position f

abbrev pub with_off_flow : ℕ → List ℕ → ℕ → ℕ → List ℕ
with_off_flow n sheet i s = set sheet (1 + n + i) s

abbrev pub with_on_flow : ℕ → List ℕ → ℕ → ℕ → List ℕ
with_on_flow n sheet i r = set sheet (1 + n + n + i) r

abbrev pub with_mode : ℕ → List ℕ → ℕ → ℕ → List ℕ
with_mode n sheet i mode = set sheet (1 + n + n + n + i) mode
