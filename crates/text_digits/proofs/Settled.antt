-- The promise of each public function settles its result, and the later contents of the buffer that is lent to it to write:
-- two answers that it allows for the same arguments are equal, and so are two later contents. Assumes nothing.
use Prim.Native.Nat.{ℕ}
use mathlib.Core.Path.{◌≡◌}
use mathlib.Core.List.{List}
use contract.Lifetimes.{Lfts}
use denote.Triple.Clauses.{AtExit}
use borrow.Fn.Kinds.{ParamKind, ResultKind, Out, Dens, ended_of, res_t}
use Rattle.whole.proofs.Settles.{Settles, settled}
use Rattle.text_digits.proofs.write_decimal.Kinds as write_decimal_kinds
use Rattle.text_digits.proofs.write_decimal.Reads as write_decimal_reads
use Rattle.text_digits.proofs.write_rest.Kinds as write_rest_kinds
use Rattle.text_digits.proofs.write_rest.Reads as write_rest_reads
use Rattle.text_digits.proofs.write_record.Kinds as write_record_kinds
use Rattle.text_digits.proofs.write_record.Reads as write_record_reads

-- two later contents of a lent list that a promise allows, for the same arguments, are equal
abbrev pub SettlesLater : (n : ℕ) (ps : List (ParamKind n)) (r : ResultKind n) → Out n ps r → ((κs : Lfts n) → AtExit (ended_of n ps r) κs → List ℕ) → Type 0
SettlesLater n ps r Promise later =
    (κs : Lfts n) (a : Dens κs ps) (y z : (res_t r κs).Denot) (e f : AtExit (ended_of n ps r) κs) → Promise κs a y e → Promise κs a z f → later κs e ≡ later κs f

pub write_decimal_settles : Settles _ write_decimal_kinds.ps write_decimal_kinds.r write_decimal_reads.Learnt
write_decimal_settles κs a y z e f p q = settled p.0 q.0

pub write_decimal_settles_buffer : SettlesLater _ write_decimal_kinds.ps write_decimal_kinds.r write_decimal_reads.Learnt (λ κs e. e.1.0.now)
write_decimal_settles_buffer κs a y z e f p q = settled p.1 q.1

pub write_record_settles : Settles _ write_record_kinds.ps write_record_kinds.r write_record_reads.Learnt
write_record_settles κs a y z e f p q = settled p.0 q.0

pub write_record_settles_buffer : SettlesLater _ write_record_kinds.ps write_record_kinds.r write_record_reads.Learnt (λ κs e. e.1.0.now)
write_record_settles_buffer κs a y z e f p q = settled p.1 q.1

pub write_rest_settles : Settles _ write_rest_kinds.ps write_rest_kinds.r write_rest_reads.Learnt
write_rest_settles κs a y z e f p q = settled p.0 q.0

pub write_rest_settles_buffer : SettlesLater _ write_rest_kinds.ps write_rest_kinds.r write_rest_reads.Learnt (λ κs e. e.1.0.now)
write_rest_settles_buffer κs a y z e f p q = settled p.1.0 q.1.0
