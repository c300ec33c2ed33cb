-- The lines of a period, one after the other. Assumes nothing.
use Prim.Native.Nat.{ℕ, suc, ◌+◌, ◌-◌, ◌*◌, ◌≤◌, ◌<◌}
use mathlib.Core.Path.{◌≡◌, refl, sym, ap, ◌∙◌}
use mathlib.Core.List.{List, [], ◌∷◌, append_assoc}
use native.Mathlib.Numerals.{add-one}
use native.Mathlib.Omega.{arith}
use lib.ListN.{length, take, drop, length-append, drop_of_length-le}
use lib.Seq.{sets, sets-eq, take_at, drop-cons, drop-drop}
use borrow.Rule.Slice.PartMut.{put_mid}
use Rattle.std.specs.Prelude.{Result, Ok}
use Rattle.whole.specs.Lists.{build}
use Rattle.whole.proofs.Lists.{build-length, build_at}
use Rattle.refusals.specs.declared.Refusal.{Refusal}
use Rattle.layout.specs.Layout.{count_at, cells}
use Rattle.layout.specs.Sheet.{flow_in, off_flow_in, on_flow_in, mode_in}
use Rattle.layout.specs.Laid.{stored}
use Rattle.text_digits.specs.Lines.{digits_of, rest_text, line_text}
use Rattle.text_digits.specs.Writes.{rest_written, after_rest}
use Rattle.text_digits.proofs.Lines.{line_starts, rest_fits}
use Rattle.text_digits.proofs.Stores.{stores_after}
use Rattle.text_records.specs.Texts.{text_of}
use Rattle.program_steps.specs.Lines.{line_room, entry_record, cell_record, period_text}
use Rattle.program_steps.specs.Private.{Put, PutDigits, PutCell, CellFits}

-- what was written ends at one place
same_end : {w : Result ℕ Refusal} {end place : ℕ} → w ≡ Ok end → w ≡ Ok place → end ≡ place
same_end p q = cc

-- the cells' lines from the one of index i on
module _ (k n : ℕ) (state sheet : List ℕ) where
  abbrev rows : List (List ℕ)
  rows = build n (cell_record k n state sheet)

  pub record Writing (out₀ : List ℕ) (at i : ℕ) (out : List ℕ) (to : ℕ) : Type 0 where
    pub stores : sets out to (text_of (drop i rows)) ≡ sets out₀ at (text_of rows)
    pub ends : to + length (text_of (drop i rows)) ≡ at + length (text_of rows)
    pub room : to + line_room * (n - i) ≤ length out
    pub same : length out ≡ length out₀

  next_row : (i : ℕ) → i < n → drop i rows ≡ cell_record k n state sheet i ∷ drop (i + 1) rows
  next_row i h =
      let within : i < length rows = rw (build-length n (cell_record k n state sheet)) h in
      drop-cons rows i [] within
      ∙ ap (λ (row : List ℕ). row ∷ drop (suc i) rows) (build_at n (cell_record k n state sheet) i [] h)
      ∙ ap (λ (j : ℕ). cell_record k n state sheet i ∷ drop j rows) (sym (add-one i))

  pub cell_written : {out₀ out later : List ℕ} {at i to after : ℕ} → Writing out₀ at i out to → i < n → Put (line_text (cell_record k n state sheet i)) out to after later → after ≤ to + line_room
      → length later ≡ length out → Writing out₀ at (i + 1) later after
  unfolding text_of
  cell_written {out = out} {i = i} {to = to} writing h put most same =
      let line = line_text (cell_record k n state sheet i) in
      let rest = text_of (drop (i + 1) rows) in
      let stored = rw (next_row i h) at writing.stores in
      let ended = rw (next_row i h) at writing.ends in
      record {
        stores = rw (put.stores, put.ends) (sym (stores_after out to line rest) ∙ stored);
        ends = rw put.ends (omega (arith, length-append line rest, ended));
        room = omega (arith, writing.room);
        same = same ∙ writing.same;
      }

  pub all_written : {out₀ out : List ℕ} {at i to : ℕ} → Writing out₀ at i out to → n ≤ i → Put (text_of rows) out₀ at to out
  unfolding text_of
  all_written {i = i} writing h =
      let past : length rows ≤ i = rw (build-length n (cell_record k n state sheet)) h in
      let none = drop_of_length-le rows past in
      record { ends = omega (arith, rw none at writing.ends); stores = rw none at writing.stores }

  -- the entry's line, then the cells'
  pub period_written : (out₀ : List ℕ) (at : ℕ) {out later : List ℕ} {to after : ℕ} → Put (line_text (entry_record k state sheet)) out₀ at to out → Put (text_of rows) out to after later
      → Put (period_text k n state sheet) out₀ at after later
  unfolding period_text
  period_written out₀ at entry cells =
      let line = line_text (entry_record k state sheet) in
      record {
        ends = omega (arith, length-append line (text_of rows), entry.ends, cells.ends);
        stores = cells.stores ∙ rw (entry.stores, entry.ends) (sym (stores_after out₀ at line (text_of rows)));
      }

-- bytes copied to a part of the output
pub bytes_copied : (bytes out : List ℕ) (at : ℕ) → at + length bytes ≤ length out → {part : List ℕ} → part ≡ bytes → put_mid at (at + length bytes - at) out part ≡ sets out at bytes
bytes_copied bytes out at fits same =
    let so_many : at + length bytes - at ≡ length bytes = omega arith in
    rw (same, so_many, sets-eq bytes out at fits, drop-drop (length bytes) at out) (sym (append_assoc (take at out) bytes (drop (at + length bytes) out)))

-- the numbers of a cell's record after the period's
abbrev pub cell_fields : ℕ → List ℕ → List ℕ → ℕ → List ℕ
cell_fields n state sheet i = (i + 1) ∷ count_at state i ∷ flow_in sheet (i + 1) ∷ off_flow_in n sheet i ∷ on_flow_in n sheet i ∷ mode_in n sheet i ∷ []

-- a line whose first number's digits are copied
line_after : (k : ℕ) (rest out₀ : List ℕ) (at : ℕ) {period out later : List ℕ} {to after : ℕ} → period ≡ digits_of k → Put period out₀ at to out
    → after ≡ to + length (rest_text rest) → later ≡ sets out to (rest_text rest) → Put (line_text (k ∷ rest)) out₀ at after later
line_after k rest out₀ at is first e s =
    let starts = line_starts k rest in
    record {
      ends = rw starts (omega (arith, length-append (digits_of k) (rest_text rest), ap length is, first.ends, e));
      stores = s ∙ rw (first.stores, first.ends, is, starts) (sym (stores_after out₀ at (digits_of k) (rest_text rest)));
    }

-- the line of a cell: the digits of its period are copied, and the rest is written, since it has room
module _ {period : List ℕ} {n i : ℕ} {state sheet out₀ : List ℕ} {at : ℕ} (fits : CellFits period n i state sheet out₀ at) {out : List ℕ} {to : ℕ} (copied : Put period out₀ at to out) (kept : length out ≡ length out₀)
    (rest : List ℕ) {w : Result ℕ Refusal} (told : w ≡ rest_written out to (rest_text rest)) where
  pub rest_to : (w ≡ Ok (to + length (rest_text rest))) × (after_rest out to (rest_text rest) ≡ sets out to (rest_text rest))
  rest_to =
      let fit = rest_fits out (rest_text rest) to (omega (arith, copied.ends, fits.short, fits.room, kept)) in
      (told ∙ fit.0, fit.1)

  pub cell_put : rest ≡ cell_fields n state sheet i → {later : List ℕ} {end : ℕ} → later ≡ after_rest out to (rest_text rest) → ((end : ℕ) → w ≡ Ok end → end ≤ to + 128) → w ≡ Ok end → PutCell period n i state sheet out₀ at end later
  cell_put same stored most is =
      let ends = same_end is rest_to.0 in
      record {
        put = λ k of. line_after k (cell_fields n state sheet i) out₀ at of copied (rw same at ends) (rw same at (stored ∙ rest_to.1));
        within = omega (arith, most _ is, copied.ends, fits.short);
      }

-- the digits stand at the start of the space that they are written to
module _ (k : ℕ) (space : List ℕ) {later : List ℕ} {r : ℕ} (put : PutDigits k space r later) (same : length later ≡ length space) (room : 20 ≤ length space) where
  pub held_at_start : take r later ≡ digits_of k
  held_at_start =
      let fits : 0 + length (digits_of k) ≤ length space = omega (arith, put.ends, put.within) in
      rw (put.ends, put.stores, sets-eq (digits_of k) space 0 fits) (take_at (digits_of k) (drop (0 + length (digits_of k)) space) (length (digits_of k)) refl)
