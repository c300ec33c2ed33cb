-- A re-cut and a join are sound: they change the table and keep the rest. Assumes nothing.
use Rattle.std.specs.Prelude.{Ok, Err}
use Prim.Native.Nat.{ℕ}
use mathlib.Core.Path.{◌≡◌, refl, sym, ap, ◌∙◌}
use mathlib.Core.Bool.{true, ◌&&◌, and-true}
use mathlib.Core.List.{List}
use native.Mathlib.Omega.{arith}
use borrow.Author.Tests.{eq-eqb}
use lib.ListN.{length}
use Rattle.refusals.specs.declared.Refusal.TheVariants.{Pieces, Groups}
use Rattle.refusals.specs.Checks.{Answer, accepted, answer, when_accepted}
use Rattle.layout.specs.Layout.{state_length}
use Rattle.layout.specs.Corridor.{Corridor, cells_of}
use Rattle.accept_tables.specs.Tables.{table_length_fits}
use Rattle.accept_rows.specs.Acceptance.{state_numbers}
use Rattle.refusals.proofs.Answers.{lengths_passed}
use Rattle.period.specs.Sharing.{Sharing}
use Rattle.recut_checks.proofs.Accepted.{fits}
use Rattle.recut.specs.Recut.{new_corridor, recut_checks}
use Rattle.recut.proofs.Facts.{CutFits}
use Rattle.join.specs.Join.{joined_corridor, join_checks}
use Rattle.join.proofs.Facts.{JoinFits}
use Rattle.recut_laws.proofs.Ramps.{pieces_keep_the_ramps}
use Rattle.recut_laws.proofs.Kept.{new_length, cut_keeps_vehicles, cut_keeps_each_queue, new_state_is_accepted}
use Rattle.recut_laws.proofs.Joined.{joined_length, join_keeps_vehicles, join_keeps_each_queue, joined_state_is_accepted}
use Rattle.ledger.specs.Account.{nothing}
use Rattle.ledger.specs.Calls.{IsAccepted, recut, join, leaves, account_of}
use Rattle.ledger.proofs.Sound.{Sound, stays, CallIsSound}

-- a table and a state of their lengths, whose numbers are accepted
accepted_whole : (c : Corridor) → table_length_fits c.table ≡ true → length c.state ≡ state_length (cells_of c) → answer (state_numbers c) ≡ accepted → IsAccepted c
accepted_whole c table state numbers =
    lengths_passed (state_numbers c) (ap (λ b. table_length_fits c.table && b) (eq-eqb _ _ state) ∙ and-true _ ∙ table) ∙ numbers

cut_is_sound : (old : Corridor) (pieces new : List ℕ) → CutFits old pieces new → Sound old (new_corridor old pieces new) nothing
cut_is_sound old pieces new known =
    record {
      accepted = accepted_whole (new_corridor old pieces new) known.change.new_length (new_length old pieces new known) (new_state_is_accepted old pieces new known);
      balance = omega (arith, cut_keeps_vehicles old pieces new known);
      queues = λ ramp. omega (arith, cut_keeps_each_queue old pieces new known ramp);
      ramps = pieces_keep_the_ramps old.table pieces new known.pieced;
    }

joined_is_sound : (old : Corridor) (groups new : List ℕ) → JoinFits old groups new → Sound old (joined_corridor old groups new) nothing
joined_is_sound old groups new known =
    record {
      accepted = accepted_whole (joined_corridor old groups new) known.change.new_length (joined_length old groups new known) (joined_state_is_accepted old groups new known);
      balance = omega (arith, join_keeps_vehicles old groups new known);
      queues = λ ramp. omega (arith, join_keeps_each_queue old groups new known ramp);
      ramps = sym (pieces_keep_the_ramps new groups old.table known.pieced);
    }

-- one that is refused leaves the corridor
accepted_or_stays : (c after : Corridor) → IsAccepted c → (a : Answer) → (a ≡ accepted → Sound c after nothing) → Sound c (when_accepted a after c) nothing
accepted_or_stays c after e (Ok done) sound = sound refl
accepted_or_stays c after e (Err refusal) sound = stays c e

module _ (way : Sharing) where
  pub recut_is_sound : (pieces new list : List ℕ) → CallIsSound way (recut pieces new list)
  unfolding leaves account_of
  recut_is_sound pieces new list c e =
      accepted_or_stays c (new_corridor c pieces new) e (answer (recut_checks c pieces new list))
      λ h. cut_is_sound c pieces new (fits Pieces c pieces new list c.table new h)

  pub join_is_sound : (groups new list : List ℕ) → CallIsSound way (join groups new list)
  unfolding leaves account_of
  join_is_sound groups new list c e =
      accepted_or_stays c (joined_corridor c groups new) e (answer (join_checks c groups new list))
      λ h. joined_is_sound c groups new (fits Groups c groups new list new c.table h)
