-- What a join keeps. Assumes nothing.
use Prim.Native.Nat.{ℕ, zero, suc, ◌+◌, ◌-◌, ◌≤◌, ◌<◌}
use mathlib.Core.Path.{◌≡◌, refl, sym, ap, ap₂, ◌∙◌}
use mathlib.Core.List.{List, [], ◌∷◌}
use native.Mathlib.Omega.{arith}
use borrow.Author.Tests.{le-leb}
use lib.Dec.{eqb}
use lib.ListN.{length}
use Rattle.whole.specs.Sums.{sum}
use Rattle.whole.specs.Search.{pick}
use Rattle.whole.proofs.Search.{Passes}
use Rattle.whole.proofs.Sums.{sum_more}
use Rattle.refusals.specs.Checks.{accepted, answer}
use Rattle.refusals.proofs.Answers.{both_accepted, passes_accepted}
use Rattle.layout.specs.Layout.{cells, row_at, state_length}
use Rattle.layout.specs.Corridor.{Corridor, cells_of, row_of, entry_queue_of, count_of, queue_of, last_mode_of, cell_of}
use Rattle.layout.proofs.Readers.{state_length_lem, state_entry, state_count, state_queue, state_mode}
use Rattle.accept_ranges.specs.Ranges.{with_ramp, queue_limit}
use Rattle.accept_ranges.proofs.Ranges.{fits_cell}
use Rattle.accept_tables.specs.Tables.{table_numbers}
use Rattle.accept_rows.specs.Acceptance.{state_in_range, state_numbers}
use Rattle.accept_rows.specs.Vehicles.{vehicles, at_on_ramp}
use Rattle.recut_checks.specs.Pieces.{piece_count, first_piece}
use Rattle.recut.specs.declared.Piece.{Piece}
use Rattle.recut.specs.Pieces.{piece_at}
use Rattle.recut.proofs.Walk.{On, Last, piece_of}
use Rattle.join.specs.Join.{group_vehicles, joined_cell, joined_state, joined_corridor}
use Rattle.join.proofs.Facts.{JoinFits, group_inside, group_fits}
use Rattle.recut_laws.proofs.Along.{pick_none, sums_carry, first_carries}
use Rattle.recut_laws.proofs.Ramps.{first_has_on_ramp, other_has_no_on_ramp}

module _ (old : Corridor) (groups new : List ℕ) (known : JoinFits old groups new) where
  -- the new cell of an old one, and the old one's number in its group
  abbrev piece : ℕ → Piece
  piece = piece_at groups old.table

  abbrev joined : Corridor
  joined = joined_corridor old groups new

  pub joined_count : (j : ℕ) → j < cells new → count_of (joined_corridor old groups new) j ≡ group_vehicles old (first_piece groups j) (piece_count groups j)
  joined_count = state_count (cells new) (entry_queue_of old) (joined_cell old groups)

  pub joined_queue : (j : ℕ) → j < cells new → queue_of (joined_corridor old groups new) j ≡ queue_of old (first_piece groups j)
  joined_queue = state_queue (cells new) (entry_queue_of old) (joined_cell old groups)

  pub joined_mode : (j : ℕ) → j < cells new
      → last_mode_of (joined_corridor old groups new) j ≡ last_mode_of old (first_piece groups j + (piece_count groups j - 1))
  joined_mode = state_mode (cells new) (entry_queue_of old) (joined_cell old groups)

  pub joined_entry : entry_queue_of (joined_corridor old groups new) ≡ entry_queue_of old
  joined_entry = state_entry (cells new) (entry_queue_of old) (joined_cell old groups)

  pub joined_length : length (joined_state old groups new) ≡ state_length (cells new)
  joined_length = state_length_lem (cells new) (entry_queue_of old) (joined_cell old groups)

  -- an old cell in its group
  module _ (i : ℕ) (h : i < cells_of old) where
    on : On (cells new) groups old.table i (piece i)
    on = piece_of known.pieced i h

    -- with it, one more of its group is counted
    counted_more : group_vehicles old (first_piece groups (piece i).cell) (piece i).number + count_of old i ≡ group_vehicles old (first_piece groups (piece i).cell) ((piece i).number + 1)
    counted_more = sum_more (piece i).number _ refl (ap (count_of old) on.at)

    counted_all : Last groups (piece i) → group_vehicles old (first_piece groups (piece i).cell) (piece i).number + count_of old i ≡ count_of joined (piece i).cell
    counted_all e =
        counted_more
        ∙ ap (group_vehicles old (first_piece groups (piece i).cell)) e
        ∙ sym (joined_count (piece i).cell on.cell_is)

    first_queue : (piece i).number ≡ 0 → queue_of old i ≡ queue_of joined (piece i).cell
    first_queue e =
        let same : i ≡ first_piece groups (piece i).cell = omega (arith, on.at) in
        ap (queue_of old) same ∙ sym (joined_queue (piece i).cell on.cell_is)

    -- there is no queue where there is no on-ramp
    other_queue : ((piece i).number ≡ 0 → ⊥) → queue_of old i ≡ 0
    other_queue other =
        let within = (known.change.state_fits_it.cells i h).queue in
        let none = other_has_no_on_ramp new groups old.table known.pieced i h other in
        omega (arith, rw none at within)

  -- the new counts are those of the groups
  pub join_keeps_counts : sum (cells new) (count_of (joined_corridor old groups new)) ≡ sum (cells_of old) (count_of old)
  join_keeps_counts =
      sym
      (sums_carry new groups old.table known.pieced (count_of old) (count_of joined) (λ j k. group_vehicles old (first_piece groups j) k)
      (λ j. refl) (λ i h _. counted_more i h) counted_all)

  pub join_keeps_queues : sum (cells new) (queue_of (joined_corridor old groups new)) ≡ sum (cells_of old) (queue_of old)
  join_keeps_queues = sym (first_carries new groups old.table known.pieced (queue_of old) (queue_of joined) first_queue other_queue)

  -- total vehicles in cells and queues are unchanged
  pub join_keeps_vehicles : vehicles (joined_corridor old groups new) ≡ vehicles old
  join_keeps_vehicles = omega (arith, joined_entry, join_keeps_counts, join_keeps_queues)

  -- each on-ramp's queue is found under the same ramp number
  pub join_keeps_each_queue : (ramp : ℕ) → at_on_ramp new ramp (queue_of (joined_corridor old groups new)) ≡ at_on_ramp old.table ramp (queue_of old)
  join_keeps_each_queue ramp =
      sym
      (first_carries new groups old.table known.pieced (λ i. pick (eqb (row_of old i).on ramp) (queue_of old i) 0) _
      (λ i h e. ap₂ (λ on q. pick (eqb on ramp) q 0) (first_has_on_ramp new groups old.table known.pieced i h e).0 (first_queue i h e))
      (λ i h other. ap (λ q. pick (eqb (row_of old i).on ramp) q 0) (other_queue i h other) ∙ pick_none (eqb (row_of old i).on ramp)))

  -- The new state under the new table

  -- the first of a group has the new cell's on-ramp, and the queue
  queue_stays_within : (j : ℕ) → j < cells new → queue_of joined j ≤ with_ramp (row_at new j).on queue_limit
  queue_stays_within j h =
      let cell = known.pieced.each j h in
      let inside : first_piece groups j < cells_of old = omega (arith, cell.some, group_inside known j h) in
      rw (joined_queue j h, ← cell.on) (known.change.state_fits_it.cells (first_piece groups j) inside).queue

  -- the last of a group has the mode
  mode_stays_within : (j : ℕ) → j < cells new → last_mode_of joined j ≤ 1
  mode_stays_within j h =
      let last = first_piece groups j + (piece_count groups j - 1) in
      let inside : last < cells_of old = omega (arith, (known.pieced.each j h).some, group_inside known j h) in
      rw (joined_mode j h) (known.change.state_fits_it.cells last inside).mode

  stays_in_range : Passes (cells new + 1) (state_in_range joined).test
  stays_in_range zero h = le-leb (entry_queue_of joined) queue_limit (omega (arith, joined_entry, known.change.state_fits_it.entry))
  stays_in_range (suc j) h =
      let below : j < cells new = omega arith in
      fits_cell (row_at new j) (cell_of joined j)
      (record { count = rw (joined_count j below) (group_fits known j below); queue = queue_stays_within j below; mode = mode_stays_within j below })

  -- the new state is accepted under the new table
  pub joined_state_is_accepted : answer (state_numbers (joined_corridor old groups new)) ≡ accepted
  joined_state_is_accepted =
      both_accepted (table_numbers new) (state_in_range joined ∷ []) known.change.new_numbers
      (passes_accepted (state_in_range joined) accepted stays_in_range refl)
