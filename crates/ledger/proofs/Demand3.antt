-- Demand 3 holds for any fair way of sharing room: one lemma for each kind of call, and the induction over calls. Assumes nothing.
use mathlib.Core.List.{List}
use Rattle.layout.specs.Corridor.{Corridor}
use Rattle.period.specs.Sharing.{Sharing, asymmetric}
use Rattle.period.specs.Fair.{Fair}
use Rattle.period.proofs.Fair.{asymmetric_is_fair}
use Rattle.ledger.specs.Calls.{Call, IsAccepted, period, run, recut, join}
use Rattle.ledger.specs.Demand3.{Demand3}
use Rattle.ledger.proofs.Sound.{CallIsSound, demand_3_from}
use Rattle.ledger.proofs.Periods.{period_is_sound, run_is_sound}
use Rattle.ledger.proofs.Cuts.{recut_is_sound, join_is_sound}

each_call_is_sound : (way : Sharing) → Fair way → (call : Call) → CallIsSound way call
each_call_is_sound way fair (period demand sheet) = period_is_sound way fair demand sheet
each_call_is_sound way fair (run demand sheet) = run_is_sound way fair demand sheet
each_call_is_sound way fair (recut pieces new list) = recut_is_sound way pieces new list
each_call_is_sound way fair (join groups new list) = join_is_sound way groups new list

pub demand_3 : (way : Sharing) → Fair way → (start : Corridor) → IsAccepted start → (calls : List Call) → Demand3 way start calls
demand_3 way fair = demand_3_from way (each_call_is_sound way fair)

-- for the way that the public functions take
pub demand_3_holds : (start : Corridor) → IsAccepted start → (calls : List Call) → Demand3 asymmetric start calls
demand_3_holds = demand_3 asymmetric asymmetric_is_fair
