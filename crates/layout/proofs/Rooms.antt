-- The rooms are those of the lists of 512 cells. Assumes nothing.
use mathlib.Core.Path.{◌≡◌, refl}
use Prim.Native.Nat.{ℕ}
use Rattle.layout.specs.declared.TheConstants.{TABLE_ROOM, STATE_ROOM, DEMAND_ROOM}
use Rattle.layout.specs.declared.sheet.TheConstants.{SHEET_ROOM}
use Rattle.layout.specs.Layout.{MOST, table_length, state_length, demand_length}
use Rattle.layout.specs.Sheet.{sheet_length}

pub table_room : ◌≡◌ {A = ℕ} TABLE_ROOM (table_length MOST)
table_room = refl

pub state_room : ◌≡◌ {A = ℕ} STATE_ROOM (state_length MOST)
state_room = refl

pub demand_room : ◌≡◌ {A = ℕ} DEMAND_ROOM (demand_length MOST)
demand_room = refl

pub sheet_room : ◌≡◌ {A = ℕ} SHEET_ROOM (sheet_length MOST)
sheet_room = refl
