-- The rows of a run: the state after an accepted period is accepted, so table and state need no second check. Assumes nothing.
use Prim.Native.Nat.{ℕ, zero, suc, ◌+◌, ◌-◌, ◌*◌, ◌/◌, ◌%◌, ◌≤◌, ◌<◌, zero-le}
use mathlib.Core.Path.{◌≡◌, refl, sym, ap, ap₂, ◌∙◌}
use mathlib.Core.Bool.{true, false, ◌&&◌}
use mathlib.Core.List.{List, ◌++◌}
use native.Mathlib.Nat.{zero-mul, suc-mul, div-lt_iff_lt-mul, le-div_iff_mul-le}
use Rattle.std.proofs.Math.Seq.{take-append_seam, drop-append_seam}
use Rattle.std.proofs.lemmas.List.{length-append, drop-drop}
use native.Mathlib.Numerals.{add-one}
use native.Mathlib.Omega.{arith}
use borrow.Author.Tests.{lt-ltb, le-ltb, leb-true, eqb-true}
use lib.Dec.{leb, eqb}
use Rattle.std.specs.Prelude.{Err}
use lib.ListN.{length, take, drop, length-drop}
use borrow.Author.Count.{below_more}
use Rattle.whole.proofs.Search.{Passes, first_is, none_fails}
use Rattle.refusals.specs.declared.Refusal.{Refusal}
use Rattle.refusals.specs.declared.Refusal.TheVariants.{Length}
use Rattle.layout.specs.Layout.{demand_length}
use Rattle.refusals.specs.Checks.{Answer, accepted, answer}
use Rattle.accept_rows.specs.Acceptance.{state_lengths_fit, row_lengths_fit, state_numbers, state_checks, demand_numbers, demand_checks}
use Rattle.refusals.proofs.Answers.{length_fits_too, length_fails, accepted_passes}
use Rattle.whole.proofs.Tests.{both_hold}
use Rattle.period.specs.Sharing.{Sharing}
use Rattle.period.specs.Period.{corridor_after, RowAccepted, RowDone}
use Rattle.layout.specs.Sheet.{sheet_length}
use Rattle.period.specs.Fair.{Fair}
use Rattle.period.proofs.Reading.{after_length, of_length}
use Rattle.period.proofs.Again.{state_stays_accepted}
use Rattle.period.proofs.Rows.{row_fits, row_alone, row_is_accepted, same_length_fits}
use Rattle.period_run.specs.declared.Ran.{Ran}
use Rattle.period_run.specs.Run.{rows, demand_row, is_accepted, corridor_after_periods, sheet_after_periods, row_answer, completed, rows_answer, run_lists_fit, run_checks, RunDone}
use Rattle.period_run.specs.Private.{Runnable, RowsDone}
use Rattle.layout.specs.Corridor.{Corridor, corridor_of, cells_of}

-- what is left of the demand list after k rows, and a part of a row's size cut off it

pub record Left (n : ℕ) (demand : List ℕ) (size k : ℕ) (rest : List ℕ) : Type 0 where
  pub wide : size ≡ demand_length n
  pub is : rest ≡ drop (k * size) demand

pub record Cut (size : ℕ) (rest row rest' : List ℕ) : Type 0 where
  pub is : rest ≡ row ++ rest'
  pub long : length row ≡ size

module _ {n size k : ℕ} {demand rest : List ℕ} (left : Left n demand size k rest) where
  length_left : length rest ≡ length demand - k * size
  length_left = ap length left.is ∙ length-drop (k * size) demand

  rows_by_size : rows n demand ≡ length demand / size
  rows_by_size = ap (λ w. length demand / w) (sym left.wide)

  -- too little for a row is left after the last one
  pub rows_end : length rest < size → rows n demand ≤ k
  rows_end short =
      let past : length demand < suc k * size = omega (arith, length_left, suc-mul k size, short) in
      let some : 0 < size = omega (arith, left.wide) in
      let below = div-lt_iff_lt-mul {x = length demand} {y = suc k} some in
      omega (arith, below.1 past, rows_by_size)

  module _ {row rest' : List ℕ} (cut : Cut size rest row rest') where
    pub row_inside : k < rows n demand
    row_inside =
        let some : 0 < size = omega (arith, left.wide) in
        let fits : suc k * size ≤ length demand = omega (arith, length_left, suc-mul k size, ap length cut.is, length-append row rest', cut.long, some) in
        omega (arith, (le-div_iff_mul-le {k = size} {x = suc k} {y = length demand} some).1 fits, rows_by_size)

    -- it is the row of index k
    pub is_row : row ≡ demand_row n demand k
    is_row =
        sym (take-append_seam row rest')
        ∙ ap₂ (λ m xs. take m xs) (cut.long ∙ left.wide) (sym cut.is ∙ left.is ∙ ap (λ w. drop (k * w) demand) left.wide)

    pub next_left : Left n demand size (k + 1) rest'
    next_left =
        record {
          wide = left.wide;
          is =
              sym (drop-append_seam row rest')
              ∙ ap₂ (λ m xs. drop m xs) cut.long (sym cut.is ∙ left.is)
              ∙ drop-drop size (k * size) demand
              ∙ ap (λ m. drop m demand) (sym (rw add-one (suc-mul k size)));
        }

-- what the fitting of the lists says
pub lists_fit_lem : (n : ℕ) (demand sheet : List ℕ) → run_lists_fit n demand sheet ≡ true → (rows n demand ≤ 4_096) × (length sheet ≡ sheet_length n)
lists_fit_lem n demand sheet e =
    let whole = eqb (length demand % demand_length n) 0 in
    let both = both_hold (whole && leb (rows n demand) 4_096) _ e in
    (leb-true (rows n demand) 4_096 (both_hold whole _ both.0).1, eqb-true (length sheet) (sheet_length n) both.1)

-- The rows of a run, one after the other

module _ (way : Sharing) (fair : Fair way) (c : Corridor) (demand sheet : List ℕ) where
  -- after k rows
  pub record Running (k : ℕ) (now now_sheet : List ℕ) : Type 0 where
    pub is : corridor_of c.table now ≡ corridor_after_periods way c demand k
    pub sheet_is : now_sheet ≡ sheet_after_periods way c demand sheet k
    pub fits : state_lengths_fit (corridor_of c.table now) ≡ true
    pub sheet_fits : length now_sheet ≡ sheet_length (cells_of c)
    pub state_accepted : answer (state_numbers (corridor_of c.table now)) ≡ accepted

  pub starts : Runnable c demand sheet → Running 0 c.state sheet
  unfolding corridor_after_periods sheet_after_periods
  starts can =
      record { is = refl; sheet_is = refl; fits = can.fits; sheet_fits = (lists_fit_lem (cells_of c) demand sheet can.lists).1; state_accepted = can.state_accepted }

  module _ {k : ℕ} {now now_sheet row : List ℕ} (running : Running k now now_sheet) (at : row ≡ demand_row (cells_of c) demand k) where
    -- the row's answer is that of the definitions
    pub answer_is : {a : Answer} → a ≡ answer (demand_numbers (corridor_of c.table now) row) → a ≡ row_answer way c demand k
    answer_is e = e ∙ ap₂ (λ x r. answer (demand_numbers x r)) running.is at

    module _ {next next_sheet : List ℕ} (passed : answer (demand_numbers (corridor_of c.table now) row) ≡ accepted) (done : RowDone way (corridor_of c.table now) row next next_sheet) where
      next_is : corridor_of c.table next ≡ corridor_after way (corridor_of c.table now) row
      next_is = ap (corridor_of c.table) done.leaves_state

      pub steps : Running (k + 1) next next_sheet
      unfolding corridor_after_periods sheet_after_periods
      steps =
          record {
            is = rw (add-one k, ← running.is, ← at) next_is;
            sheet_is = rw (add-one k, ← running.is, ← at) done.leaves_sheet;
            fits = same_length_fits (corridor_of c.table now) next running.fits (ap length done.leaves_state ∙ after_length way (corridor_of c.table now) row);
            sheet_fits = ap length done.leaves_sheet ∙ of_length way (corridor_of c.table now) row;
            state_accepted = ap (λ x. answer (state_numbers x)) next_is ∙ state_stays_accepted way fair (corridor_of c.table now) row running.state_accepted passed;
          }

is_refused : (a : Answer) (refusal : Refusal) → a ≡ Err refusal → is_accepted a ≡ false
is_refused a refusal e = rw e

-- How the rows end

module _ (way : Sharing) (fair : Fair way) (c : Corridor) (demand sheet : List ℕ) where
  -- the first k rows are accepted
  abbrev pub Passed : ℕ → Type 0
  Passed k = Passes k (λ k. is_accepted (row_answer way c demand k))

  finished : {ran : Ran} {now now_sheet : List ℕ} → ran.periods ≡ completed way c demand → ran.answer ≡ rows_answer way c demand → Running way fair c demand sheet ran.periods now now_sheet → RowsDone way c demand sheet ran now now_sheet
  finished count a running =
      record {
        periods = count;
        answered = a;
        leaves_state = ap (λ x. x.state) running.is ∙ ap (λ k. (corridor_after_periods way c demand k).state) count;
        leaves_sheet = running.sheet_is ∙ ap (sheet_after_periods way c demand sheet) count;
      }

  pub all_rows_done : {n k : ℕ} {now now_sheet : List ℕ} → n ≡ rows (cells_of c) demand → k ≡ n → Passed k → Running way fair c demand sheet k now now_sheet
      → RowsDone way c demand sheet (record { periods = n; answer = accepted }) now now_sheet
  all_rows_done {n} {k} whole all passed running =
      let done : n ≡ completed way c demand = whole ∙ sym (none_fails (rows (cells_of c) demand) _ (λ k h. passed k (omega arith))) in
      finished done (sym (rw (le-ltb (completed way c demand) (rows (cells_of c) demand) (omega (arith, done, whole))))) (rw all at running)

  pub row_refused : {k : ℕ} {now now_sheet row : List ℕ} {a : Answer} {refusal : Refusal} → k < rows (cells_of c) demand → Passed k → Running way fair c demand sheet k now now_sheet
      → row ≡ demand_row (cells_of c) demand k → a ≡ answer (demand_numbers (corridor_of c.table now) row) → a ≡ Err refusal → RowsDone way c demand sheet (record { periods = k; answer = Err refusal }) now now_sheet
  row_refused {k} {refusal = refusal} h passed running at asked e =
      let a-is = answer_is way fair c demand sheet running at asked in
      let here : k ≡ completed way c demand =
      first_is (rows (cells_of c) demand) _ k (record { reaches = omega arith; before = passed; fails = λ _. is_refused _ refusal (sym a-is ∙ e) }) in
      finished here
      (sym e ∙ a-is ∙ ap (row_answer way c demand) here ∙ sym (rw (lt-ltb (completed way c demand) (rows (cells_of c) demand) (omega (arith, here, h)))))
      running

-- The loop over the rows, where k of them are done

module _ (way : Sharing) (fair : Fair way) (c : Corridor) (demand sheet : List ℕ) where
  pub record AtRow (size k : ℕ) (rest now now_sheet : List ℕ) : Type 0 where
    pub left : Left (cells_of c) demand size k rest
    pub reaches : k ≤ rows (cells_of c) demand
    pub passed : Passed way fair c demand sheet k
    pub running : Running way fair c demand sheet k now now_sheet

  pub first_row : {size k : ℕ} {rest : List ℕ} → Runnable c demand sheet → size ≡ demand_length (cells_of c) → k ≡ 0 → rest ≡ demand → AtRow size k rest c.state sheet
  first_row {size} {k} can wide none all =
      rw none
      (record {
        left = record { wide = wide; is = rw zero-mul all };
        reaches = zero-le;
        passed = λ k h. absurd (omega arith);
        running = starts way fair c demand sheet can;
      })

  pub rows_done : {size k n : ℕ} {rest now now_sheet : List ℕ} → AtRow size k rest now now_sheet → length rest < size → n ≡ rows (cells_of c) demand → RowsDone way c demand sheet (record { periods = n; answer = accepted }) now now_sheet
  rows_done so short n = all_rows_done way fair c demand sheet n (omega (arith, n, so.reaches, rows_end so.left short)) so.passed so.running

  module _ {size k : ℕ} {rest now now_sheet row rest' : List ℕ} (so : AtRow size k rest now now_sheet) (cut : Cut size rest row rest') where
    row_length : length row ≡ demand_length (cells_of c)
    row_length = cut.long ∙ so.left.wide

    pub row_lengths_fit_lem : row_lengths_fit (corridor_of c.table now) row ≡ true
    row_lengths_fit_lem = row_fits (corridor_of c.table now) row so.running.fits row_length

    module _ {a : Answer} (asked : a ≡ answer (demand_checks (corridor_of c.table now) row)) where
      numbers_asked : a ≡ answer (demand_numbers (corridor_of c.table now) row)
      numbers_asked = asked ∙ row_alone (corridor_of c.table now) row so.running.fits row_length

      pub refused_here : {refusal : Refusal} → a ≡ Err refusal → RowsDone way c demand sheet (record { periods = k; answer = Err refusal }) now now_sheet
      refused_here e =
          row_refused way fair c demand sheet (row_inside so.left cut) so.passed so.running (is_row so.left cut) numbers_asked e

      module _ (yes : a ≡ accepted) where
        row_passed : answer (demand_numbers (corridor_of c.table now) row) ≡ accepted
        row_passed = sym numbers_asked ∙ yes

        pub can_be_run : RowAccepted (corridor_of c.table now) row
        can_be_run = row_is_accepted (corridor_of c.table now) row so.running.fits row_length so.running.state_accepted row_passed

        pub next_row : {next next_sheet : List ℕ} {size' k' : ℕ} → size' ≡ size → k' ≡ k + 1 → RowDone way (corridor_of c.table now) row next next_sheet → AtRow size' k' rest' next next_sheet
        next_row same one done =
            let here : is_accepted (row_answer way c demand k) ≡ true =
            ap is_accepted (sym (answer_is way fair c demand sheet so.running (is_row so.left cut) numbers_asked) ∙ yes) in
            rw (same, one)
            (record {
              left = next_left so.left cut;
              reaches = omega (arith, row_inside so.left cut);
              passed = below_more _ k so.passed here;
              running = steps way fair c demand sheet so.running (is_row so.left cut) row_passed done;
            })

-- How a run ends: refused by 1 to 5, or with its rows

module _ (way : Sharing) (c : Corridor) (demand sheet : List ℕ) where
  refused : {refusal : Refusal} → Err refusal ≡ answer (run_checks c demand sheet) → RunDone way c demand sheet (record { periods = 0; answer = Err refusal }) c.state sheet
  unfolding corridor_after_periods sheet_after_periods
  refused e = record { periods = rw (← e); answered = rw (← e); leaves_state = rw (← e); leaves_sheet = rw (← e) }

  pub lists_refused : run_lists_fit (cells_of c) demand sheet ≡ false → RunDone way c demand sheet (record { periods = 0; answer = Err Length }) c.state sheet
  lists_refused e = refused (length_fails (state_numbers c) (state_lengths_fit c) e)

  module _ (lists : run_lists_fit (cells_of c) demand sheet ≡ true) where
    -- where the demand rows and the sheet fit, 1 to 5 are those of the state
    checks_of_the_state : answer (run_checks c demand sheet) ≡ answer (state_checks c)
    checks_of_the_state = length_fits_too (state_numbers c) (state_lengths_fit c) lists

    pub state_refused : {refusal : Refusal} → Err refusal ≡ answer (state_checks c) → RunDone way c demand sheet (record { periods = 0; answer = Err refusal }) c.state sheet
    state_refused e = refused (e ∙ sym checks_of_the_state)

    pub run_done : {ran : Ran} {now now_sheet : List ℕ} → accepted ≡ answer (state_checks c) → RowsDone way c demand sheet ran now now_sheet → RunDone way c demand sheet ran now now_sheet
    run_done e done =
        let passed = e ∙ sym checks_of_the_state in
        record {
          periods = rw (← passed) done.periods;
          answered = rw (← passed) done.answered;
          leaves_state = rw (← passed) done.leaves_state;
          leaves_sheet = rw (← passed) done.leaves_sheet;
        }

  -- once 1 to 5 have passed the rows can be run
  pub can_run : run_lists_fit (cells_of c) demand sheet ≡ true → accepted ≡ answer (state_checks c) → Runnable c demand sheet
  can_run lists e =
      let passed = accepted_passes _ _ (sym e) in record { lists = lists; fits = passed.0 0 (omega arith); state_accepted = passed.1 }

-- no period changes the table
pub table_stays : (way : Sharing) (c : Corridor) (demand : List ℕ) (k : ℕ) → (corridor_after_periods way c demand k).table ≡ c.table
unfolding corridor_after_periods
table_stays way c demand zero = refl
table_stays way c demand (suc k) = table_stays way c demand k
