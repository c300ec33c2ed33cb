-- What a re-cut keeps. Assumes nothing.
use Prim.Native.Nat.{ℕ, zero, suc, ◌+◌, ◌*◌, ◌/◌, ◌≤◌, ◌<◌, zero-le}
use mathlib.Core.Path.{◌≡◌, refl, ap, ap₂, ◌∙◌}
use mathlib.Core.Logic.{◌⊎◌, inl, inr}
use mathlib.Core.List.{List, [], ◌∷◌}
use native.Mathlib.Omega.{arith}
use native.Mathlib.Decide.{ℕ_discrete}
use borrow.Author.Tests.{le-leb, eq-eqb, ne_eqb}
use lib.Dec.{eqb}
use lib.ListN.{length}
use Rattle.whole.specs.Sums.{sum}
use Rattle.whole.specs.Search.{pick}
use Rattle.whole.proofs.Search.{Passes}
use Rattle.refusals.specs.Checks.{accepted, answer}
use Rattle.refusals.proofs.Answers.{both_accepted, passes_accepted}
use Rattle.layout.specs.Layout.{cells, row_at, state_length}
use Rattle.layout.specs.Corridor.{Corridor, cells_of, row_of, entry_queue_of, count_of, queue_of, last_mode_of, cell_of}
use Rattle.layout.proofs.Readers.{state_length_lem, state_entry, state_count, state_queue, state_mode}
use Rattle.accept_ranges.specs.Ranges.{with_ramp, queue_limit}
use Rattle.accept_ranges.proofs.Ranges.{fits_cell}
use Rattle.accept_tables.specs.Tables.{table_numbers}
use Rattle.accept_rows.specs.Acceptance.{state_in_range, state_numbers}
use Rattle.accept_rows.specs.Vehicles.{vehicles, at_on_ramp}
use Rattle.recut_checks.specs.Pieces.{piece_count, first_piece, jam_before}
use Rattle.recut.specs.declared.Piece.{Piece}
use Rattle.recut.specs.Pieces.{piece_at}
use Rattle.recut.specs.Recut.{piece_vehicles, piece_cell, new_cell, new_state, new_corridor}
use Rattle.recut.proofs.Walk.{On, Followed, Last, followed_or_last}
use Rattle.recut.proofs.Shares.{share_grows, share_of_none}
use Rattle.recut.proofs.Facts.{CutFits, the_piece, jams_with, cuttable}
use Rattle.recut_laws.proofs.Shares.{share_of_all, piece_fits}
use Rattle.recut_laws.proofs.Along.{pick_none, sums_carry, first_carries}
use Rattle.recut_laws.proofs.Ramps.{first_has_on_ramp}

module _ (old : Corridor) (pieces new : List ℕ) (known : CutFits old pieces new) where
  abbrev piece : ℕ → Piece
  piece = piece_at pieces new

  abbrev cut : Corridor
  cut = new_corridor old pieces new

  -- the cell of a piece, and what stands in the new state
  module _ (j : ℕ) (h : j < cells new) where
    on : On (cells_of old) pieces new j (piece_at pieces new j)
    on = the_piece old pieces new known j h

    new_count : count_of cut j ≡ piece_vehicles (count_of old (piece j).cell) (row_of old (piece j).cell).jam (piece j).before (row_at new j).jam
    unfolding piece_cell
    new_count = state_count (cells new) (entry_queue_of old) (new_cell old pieces new) j h

    new_queue : queue_of cut j ≡ pick (eqb (piece j).number 0) (queue_of old (piece j).cell) 0
    unfolding piece_cell
    new_queue = state_queue (cells new) (entry_queue_of old) (new_cell old pieces new) j h

    pub first_queue : (piece j).number ≡ 0 → queue_of cut j ≡ queue_of old (piece j).cell
    first_queue e = new_queue ∙ rw (eq-eqb (piece j).number 0 e)

    other_queue : ((piece j).number ≡ 0 → ⊥) → queue_of cut j ≡ 0
    other_queue other = new_queue ∙ rw (ne_eqb (piece j).number 0 other)

    new_mode : last_mode_of cut j ≡ pick (eqb ((piece j).number + 1) (piece_count pieces (piece j).cell)) (last_mode_of old (piece j).cell) 0
    unfolding piece_cell
    new_mode = state_mode (cells new) (entry_queue_of old) (new_cell old pieces new) j h

    -- the last piece has the old cell's mode, and another one 0
    pub last_takes_the_mode : Last pieces (piece_at pieces new j) → last_mode_of (new_corridor old pieces new) j ≡ last_mode_of old (piece_at pieces new j).cell
    last_takes_the_mode e = new_mode ∙ rw (eq-eqb _ _ e)

    pub other_has_mode_0 : Followed pieces (piece_at pieces new j) → last_mode_of (new_corridor old pieces new) j ≡ 0
    other_has_mode_0 more = new_mode ∙ rw (ne_eqb ((piece j).number + 1) (piece_count pieces (piece j).cell) (λ e. omega arith))

  pub new_entry : entry_queue_of cut ≡ entry_queue_of old
  new_entry = state_entry (cells new) (entry_queue_of old) (new_cell old pieces new)

  pub new_length : length (new_state old pieces new) ≡ state_length (cells new)
  new_length = state_length_lem (cells new) (entry_queue_of old) (new_cell old pieces new)

  -- the vehicles of a cell's first k pieces
  pub shared : ℕ → ℕ → ℕ
  shared i k = count_of old i * jam_before new (first_piece pieces i) k / (row_of old i).jam

  pub shared_more : (j : ℕ) → j < cells new → shared (piece j).cell (piece j).number + count_of cut j ≡ shared (piece j).cell ((piece j).number + 1)
  unfolding shared
  shared_more j h =
      let p = piece j in
      rw (← (on j h).before_is, ← jams_with old pieces new known j h)
      (omega (arith, new_count j h, share_grows (count_of old p.cell) (row_of old p.cell).jam p.before (p.before + (row_at new j).jam) (cuttable old pieces new known j h).some (omega arith)))

  pub shared_none : (i : ℕ) → shared i 0 ≡ 0
  unfolding shared jam_before
  shared_none i = share_of_none (count_of old i) (row_of old i).jam

  pub shared_all : (j : ℕ) → j < cells new → Last pieces (piece j) → shared (piece j).cell ((piece j).number + 1) ≡ count_of old (piece j).cell
  unfolding shared
  shared_all j h e = rw (e, (known.pieced.each (piece j).cell (on j h).cell_is).jams) (share_of_all _ _ (cuttable old pieces new known j h).some)

  -- the pieces' vehicles sum to the old counts
  pub cut_keeps_counts : sum (cells new) (count_of (new_corridor old pieces new)) ≡ sum (cells_of old) (count_of old)
  cut_keeps_counts =
      sums_carry old.table pieces new known.pieced (count_of cut) (count_of old) shared shared_none (λ j h _. shared_more j h) (λ j h e. shared_more j h ∙ shared_all j h e)

  -- each piece holds at most its J
  pub piece_holds_at_most_its_jam : (j : ℕ) → j < cells new → count_of (new_corridor old pieces new) j ≤ (row_at new j).jam
  piece_holds_at_most_its_jam j h =
      let asks = cuttable old pieces new known j h in
      rw (new_count j h) (piece_fits (count_of old (piece j).cell) (row_of old (piece j).cell).jam (piece j).before (row_at new j).jam asks.some asks.held)

  pub cut_keeps_queues : sum (cells new) (queue_of (new_corridor old pieces new)) ≡ sum (cells_of old) (queue_of old)
  cut_keeps_queues = first_carries old.table pieces new known.pieced (queue_of cut) (queue_of old) first_queue other_queue

  -- total vehicles in cells and queues are unchanged
  pub cut_keeps_vehicles : vehicles (new_corridor old pieces new) ≡ vehicles old
  cut_keeps_vehicles = omega (arith, new_entry, cut_keeps_counts, cut_keeps_queues)

  -- each on-ramp's queue is found under the same ramp number
  pub cut_keeps_each_queue : (ramp : ℕ) → at_on_ramp new ramp (queue_of (new_corridor old pieces new)) ≡ at_on_ramp old.table ramp (queue_of old)
  cut_keeps_each_queue ramp =
      first_carries old.table pieces new known.pieced (λ j. pick (eqb (row_at new j).on ramp) (queue_of cut j) 0) _
      (λ j h e. ap₂ (λ on q. pick (eqb on ramp) q 0) (first_has_on_ramp old.table pieces new known.pieced j h e).0 (first_queue j h e))
      (λ j h other. ap (λ q. pick (eqb (row_at new j).on ramp) q 0) (other_queue j h other) ∙ pick_none (eqb (row_at new j).on ramp))

  -- The new state under the new table

  queue_stays_within : (j : ℕ) → j < cells new → queue_of cut j ≤ with_ramp (row_at new j).on queue_limit
  queue_stays_within j h = by (ℕ_discrete (piece j).number 0)
    where
      by : Dec ((piece j).number ≡ 0) → queue_of cut j ≤ with_ramp (row_at new j).on queue_limit
      by (yes e) = rw (first_queue j h e, (first_has_on_ramp old.table pieces new known.pieced j h e).0) (known.change.state_fits_it.cells (piece j).cell (on j h).cell_is).queue
      by (no other) = rw (other_queue j h other) zero-le

  mode_stays_within : (j : ℕ) → j < cells new → last_mode_of cut j ≤ 1
  mode_stays_within j h = by (followed_or_last (on j h))
    where
      by : Followed pieces (piece j) ⊎ Last pieces (piece j) → last_mode_of cut j ≤ 1
      by (inl more) = rw (other_has_mode_0 j h more) zero-le
      by (inr e) = rw (last_takes_the_mode j h e) (known.change.state_fits_it.cells (piece j).cell (on j h).cell_is).mode

  stays_in_range : Passes (cells new + 1) (state_in_range cut).test
  stays_in_range zero h = le-leb (entry_queue_of cut) queue_limit (omega (arith, new_entry, known.change.state_fits_it.entry))
  stays_in_range (suc j) h =
      let below : j < cells new = omega arith in
      fits_cell (row_at new j) (cell_of cut j)
      (record { count = piece_holds_at_most_its_jam j below; queue = queue_stays_within j below; mode = mode_stays_within j below })

  -- the new state is accepted under the new table
  pub new_state_is_accepted : answer (state_numbers (new_corridor old pieces new)) ≡ accepted
  new_state_is_accepted =
      both_accepted (table_numbers new) (state_in_range cut ∷ []) known.change.new_numbers
      (passes_accepted (state_in_range cut) accepted stays_in_range refl)
