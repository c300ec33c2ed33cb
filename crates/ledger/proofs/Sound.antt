-- One call, and calls in a row. Assumes nothing.
use Prim.Native.Nat.{ℕ, ◌+◌}
use mathlib.Core.Path.{◌≡◌, refl, ◌∙◌}
use mathlib.Core.List.{List, [], ◌∷◌}
use native.Mathlib.Omega.{arith}
use Rattle.layout.specs.Corridor.{Corridor}
use Rattle.accept_rows.specs.Vehicles.{vehicles}
use Rattle.period.specs.Sharing.{Sharing}
use Rattle.ledger.specs.Account.{Account, nothing, both}
use Rattle.ledger.specs.Calls.{Call, IsAccepted, leaves, leaves_all, account_of, account_of_all, queue_of_ramp, ramps_of}
use Rattle.ledger.specs.Demand3.{Demand3}
use Rattle.ledger.proofs.Held.{counts_held, entry_held, queues_held, modes_held, ramps_held_once}

-- from one corridor to another, with its account
pub record Sound (c after : Corridor) (account : Account) : Type 0 where
  pub accepted : IsAccepted after
  pub balance : vehicles after + account.out ≡ vehicles c + account.brought
  pub queues : (ramp : ℕ) → queue_of_ramp ramp after + account.in_at ramp ≡ queue_of_ramp ramp c + account.brought_at ramp
  pub ramps : ramps_of after ≡ ramps_of c

-- a refused call changes nothing and accounts for nothing
pub stays : (c : Corridor) → IsAccepted c → Sound c c nothing
stays c e = record { accepted = e; balance = refl; queues = λ ramp. refl; ramps = refl }

pub then : {a b c : Corridor} {first second : Account} → Sound a b first → Sound b c second → Sound a c (both first second)
then one two =
    record {
      accepted = two.accepted;
      balance = omega (arith, one.balance, two.balance);
      queues = λ ramp. omega (arith, one.queues ramp, two.queues ramp);
      ramps = two.ramps ∙ one.ramps;
    }

module _ (way : Sharing) where
  -- what each kind of call has to show
  abbrev pub CallIsSound : Call → Type 0
  CallIsSound call = (c : Corridor) → IsAccepted c → Sound c (leaves way call c) (account_of way call c)

  -- calls in a row are sound where each is
  all_sound : ((call : Call) → CallIsSound call) → (calls : List Call) (c : Corridor) → IsAccepted c → Sound c (leaves_all way calls c) (account_of_all way calls c)
  unfolding leaves_all account_of_all
  all_sound each [] c e = stays c e
  all_sound each (call ∷ calls) c e = let first = each call c e in then first (all_sound each calls (leaves way call c) first.accepted)

  pub demand_3_from : ((call : Call) → CallIsSound call) → (start : Corridor) → IsAccepted start → (calls : List Call) → Demand3 way start calls
  demand_3_from each start e calls =
      let sound = all_sound each calls start e in
      record {
        accepted = sound.accepted;
        counts = counts_held (leaves_all way calls start) sound.accepted;
        entry_queue = entry_held (leaves_all way calls start) sound.accepted;
        ramp_queues = queues_held (leaves_all way calls start) sound.accepted;
        modes = modes_held (leaves_all way calls start) sound.accepted;
        ramps_once = ramps_held_once (leaves_all way calls start) sound.accepted;
        balance = sound.balance;
        queues = sound.queues;
        same_ramps = sound.ramps;
      }
