-- The promise of each function settles its result and what the list then holds. Assumes nothing.
use Prim.Native.Nat.{ℕ}
use mathlib.Core.Path.{refl}
use mathlib.Core.List.{List}
use Rattle.whole.proofs.Settles.{Settles, SettlesLists, settled}
use Rattle.layout.proofs.width.Kinds as width_kinds
use Rattle.layout.proofs.width.Reads as width_reads
use Rattle.layout.proofs.cells.Kinds as cells_kinds
use Rattle.layout.proofs.cells.Reads as cells_reads
use Rattle.layout.proofs.table_length.Kinds as table_length_kinds
use Rattle.layout.proofs.table_length.Reads as table_length_reads
use Rattle.layout.proofs.state_length.Kinds as state_length_kinds
use Rattle.layout.proofs.state_length.Reads as state_length_reads
use Rattle.layout.proofs.demand_length.Kinds as demand_length_kinds
use Rattle.layout.proofs.demand_length.Reads as demand_length_reads
use Rattle.layout.proofs.space.Kinds as space_kinds
use Rattle.layout.proofs.space.Reads as space_reads
use Rattle.layout.proofs.row_at.Kinds as row_at_kinds
use Rattle.layout.proofs.row_at.Reads as row_at_reads
use Rattle.layout.proofs.ramp_positions.Kinds as ramp_positions_kinds
use Rattle.layout.proofs.ramp_positions.Reads as ramp_positions_reads
use Rattle.layout.proofs.ramp_cell.Kinds as ramp_cell_kinds
use Rattle.layout.proofs.ramp_cell.Reads as ramp_cell_reads
use Rattle.layout.proofs.ramp_at.Kinds as ramp_at_kinds
use Rattle.layout.proofs.ramp_at.Reads as ramp_at_reads
use Rattle.layout.proofs.entry_queue.Kinds as entry_queue_kinds
use Rattle.layout.proofs.entry_queue.Reads as entry_queue_reads
use Rattle.layout.proofs.count_at.Kinds as count_at_kinds
use Rattle.layout.proofs.count_at.Reads as count_at_reads
use Rattle.layout.proofs.queue_at.Kinds as queue_at_kinds
use Rattle.layout.proofs.queue_at.Reads as queue_at_reads
use Rattle.layout.proofs.last_mode_at.Kinds as last_mode_at_kinds
use Rattle.layout.proofs.last_mode_at.Reads as last_mode_at_reads
use Rattle.layout.proofs.cell_at.Kinds as cell_at_kinds
use Rattle.layout.proofs.cell_at.Reads as cell_at_reads
use Rattle.layout.proofs.entry_demand.Kinds as entry_demand_kinds
use Rattle.layout.proofs.entry_demand.Reads as entry_demand_reads
use Rattle.layout.proofs.on_demand_at.Kinds as on_demand_at_kinds
use Rattle.layout.proofs.on_demand_at.Reads as on_demand_at_reads
use Rattle.layout.proofs.off_demand_at.Kinds as off_demand_at_kinds
use Rattle.layout.proofs.off_demand_at.Reads as off_demand_at_reads
use Rattle.layout.proofs.sheet.sheet_length.Kinds as sheet_length_kinds
use Rattle.layout.proofs.sheet.sheet_length.Reads as sheet_length_reads
use Rattle.layout.proofs.sheet.flow_in.Kinds as flow_in_kinds
use Rattle.layout.proofs.sheet.flow_in.Reads as flow_in_reads
use Rattle.layout.proofs.sheet.off_flow_in.Kinds as off_flow_in_kinds
use Rattle.layout.proofs.sheet.off_flow_in.Reads as off_flow_in_reads
use Rattle.layout.proofs.sheet.on_flow_in.Kinds as on_flow_in_kinds
use Rattle.layout.proofs.sheet.on_flow_in.Reads as on_flow_in_reads
use Rattle.layout.proofs.sheet.mode_in.Kinds as mode_in_kinds
use Rattle.layout.proofs.sheet.mode_in.Reads as mode_in_reads
use Rattle.layout.proofs.put_cell.Kinds as put_cell_kinds
use Rattle.layout.proofs.put_cell.Reads as put_cell_reads
use Rattle.layout.proofs.put_demands.Kinds as put_demands_kinds
use Rattle.layout.proofs.put_demands.Reads as put_demands_reads
use Rattle.layout.proofs.put_entry.Kinds as put_entry_kinds
use Rattle.layout.proofs.put_entry.Reads as put_entry_reads
use Rattle.layout.proofs.sheet.put_flow.Kinds as put_flow_kinds
use Rattle.layout.proofs.sheet.put_flow.Reads as put_flow_reads
use Rattle.layout.proofs.sheet.put_off_flow.Kinds as put_off_flow_kinds
use Rattle.layout.proofs.sheet.put_off_flow.Reads as put_off_flow_reads
use Rattle.layout.proofs.sheet.put_on_flow.Kinds as put_on_flow_kinds
use Rattle.layout.proofs.sheet.put_on_flow.Reads as put_on_flow_reads
use Rattle.layout.proofs.sheet.put_mode.Kinds as put_mode_kinds
use Rattle.layout.proofs.sheet.put_mode.Reads as put_mode_reads

pub width_settles : Settles _ width_kinds.ps width_kinds.r width_reads.Learnt
width_settles κs a y z e f = settled

pub cells_settles : Settles _ cells_kinds.ps cells_kinds.r cells_reads.Learnt
cells_settles κs a y z e f = settled

pub table_length_settles : Settles _ table_length_kinds.ps table_length_kinds.r table_length_reads.Learnt
table_length_settles κs a y z e f = settled

pub state_length_settles : Settles _ state_length_kinds.ps state_length_kinds.r state_length_reads.Learnt
state_length_settles κs a y z e f = settled

pub demand_length_settles : Settles _ demand_length_kinds.ps demand_length_kinds.r demand_length_reads.Learnt
demand_length_settles κs a y z e f = settled

pub space_settles : (N : ℕ) (fits : _) → Settles _ (space_kinds.ps N fits) (space_kinds.r N fits) (space_reads.Learnt N fits)
space_settles N fits κs a y z e f p q = settled p.empty q.empty

pub row_at_settles : Settles _ row_at_kinds.ps row_at_kinds.r row_at_reads.Learnt
row_at_settles κs a y z e f = settled

pub ramp_positions_settles : Settles _ ramp_positions_kinds.ps ramp_positions_kinds.r ramp_positions_reads.Learnt
ramp_positions_settles κs a y z e f = settled

pub ramp_cell_settles : Settles _ ramp_cell_kinds.ps ramp_cell_kinds.r ramp_cell_reads.Learnt
ramp_cell_settles κs a y z e f = settled

pub ramp_at_settles : Settles _ ramp_at_kinds.ps ramp_at_kinds.r ramp_at_reads.Learnt
ramp_at_settles κs a y z e f = settled

pub entry_queue_settles : Settles _ entry_queue_kinds.ps entry_queue_kinds.r entry_queue_reads.Learnt
entry_queue_settles κs a y z e f = settled

pub count_at_settles : Settles _ count_at_kinds.ps count_at_kinds.r count_at_reads.Learnt
count_at_settles κs a y z e f = settled

pub queue_at_settles : Settles _ queue_at_kinds.ps queue_at_kinds.r queue_at_reads.Learnt
queue_at_settles κs a y z e f = settled

pub last_mode_at_settles : Settles _ last_mode_at_kinds.ps last_mode_at_kinds.r last_mode_at_reads.Learnt
last_mode_at_settles κs a y z e f = settled

pub cell_at_settles : Settles _ cell_at_kinds.ps cell_at_kinds.r cell_at_reads.Learnt
cell_at_settles κs a y z e f = settled

pub entry_demand_settles : Settles _ entry_demand_kinds.ps entry_demand_kinds.r entry_demand_reads.Learnt
entry_demand_settles κs a y z e f = settled

pub on_demand_at_settles : Settles _ on_demand_at_kinds.ps on_demand_at_kinds.r on_demand_at_reads.Learnt
on_demand_at_settles κs a y z e f = settled

pub off_demand_at_settles : Settles _ off_demand_at_kinds.ps off_demand_at_kinds.r off_demand_at_reads.Learnt
off_demand_at_settles κs a y z e f = settled

pub sheet_length_settles : Settles _ sheet_length_kinds.ps sheet_length_kinds.r sheet_length_reads.Learnt
sheet_length_settles κs a y z e f = settled

pub flow_in_settles : Settles _ flow_in_kinds.ps flow_in_kinds.r flow_in_reads.Learnt
flow_in_settles κs a y z e f = settled

pub off_flow_in_settles : Settles _ off_flow_in_kinds.ps off_flow_in_kinds.r off_flow_in_reads.Learnt
off_flow_in_settles κs a y z e f = settled

pub on_flow_in_settles : Settles _ on_flow_in_kinds.ps on_flow_in_kinds.r on_flow_in_reads.Learnt
on_flow_in_settles κs a y z e f = settled

pub mode_in_settles : Settles _ mode_in_kinds.ps mode_in_kinds.r mode_in_reads.Learnt
mode_in_settles κs a y z e f = settled

pub put_cell_settles : SettlesLists _ put_cell_kinds.ps put_cell_kinds.r (List ℕ) (λ κs e. e.0.now) put_cell_reads.Learnt
put_cell_settles κs a y z e f p q = (refl, settled p q)

pub put_demands_settles : SettlesLists _ put_demands_kinds.ps put_demands_kinds.r (List ℕ) (λ κs e. e.0.now) put_demands_reads.Learnt
put_demands_settles κs a y z e f p q = (refl, settled p q)

pub put_entry_settles : SettlesLists _ put_entry_kinds.ps put_entry_kinds.r (List ℕ) (λ κs e. e.0.now) put_entry_reads.Learnt
put_entry_settles κs a y z e f p q = (refl, settled p q)

pub put_flow_settles : SettlesLists _ put_flow_kinds.ps put_flow_kinds.r (List ℕ) (λ κs e. e.0.now) put_flow_reads.Learnt
put_flow_settles κs a y z e f p q = (refl, settled p q)

pub put_off_flow_settles : SettlesLists _ put_off_flow_kinds.ps put_off_flow_kinds.r (List ℕ) (λ κs e. e.0.now) put_off_flow_reads.Learnt
put_off_flow_settles κs a y z e f p q = (refl, settled p q)

pub put_on_flow_settles : SettlesLists _ put_on_flow_kinds.ps put_on_flow_kinds.r (List ℕ) (λ κs e. e.0.now) put_on_flow_reads.Learnt
put_on_flow_settles κs a y z e f p q = (refl, settled p q)

pub put_mode_settles : SettlesLists _ put_mode_kinds.ps put_mode_kinds.r (List ℕ) (λ κs e. e.0.now) put_mode_reads.Learnt
put_mode_settles κs a y z e f p q = (refl, settled p q)
