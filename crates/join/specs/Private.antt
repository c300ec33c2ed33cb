-- Cited by private contracts and proofs alone: no public promise rests on this file.
-- What the work on a group asks.
use Rattle.std.specs.Prelude.{ℕ, ◌+◌, ◌≤◌, ◌<◌, ◌≡◌, length}
use Rattle.layout.specs.Layout.{state_length}
use Rattle.layout.specs.Corridor.{Corridor, cells_of}
use Rattle.join.specs.Join.{group_vehicles}

-- a group lies in the road, is not empty, and its vehicles fit a number of the state
pub record Joinable (old : Corridor) (first size : ℕ) : Type 0 where
  pub state_len : length old.state ≡ state_length (cells_of old)
  pub some : 0 < size
  pub inside : first + size ≤ cells_of old
  pub held : group_vehicles old first size ≤ 4_294_967_295
