use Rattle.std.proofs.Common.{refl, arith}
use Rattle.std.proofs.lemmas.Bool.{false≢true}
use Rattle.reader.specs.Formula.{no_room, fault}
use Rattle.reader.proofs.Wholes.{decided_read, decided_fault}
use Rattle.reader.proofs.formula.read.Goals as goal

pub returns-then-not-can_take-clause-read : goal.returns-then-not-can_take-clause-read
returns-then-not-can_take-clause-read c = no_room (λ fits. false≢true (c.if-not-can_take.ensures.1 fits)) refl refl

pub returns-in-Ok-clause-exact : goal.returns-in-Ok-clause-exact
returns-in-Ok-clause-exact c = decided_read (omega arith) (c.if-not-can_take.ensures.0 refl) c.in-Ok.ensures

pub returns-in-Err-clause-read : goal.returns-in-Err-clause-read
returns-in-Err-clause-read c =
    let e = c.in-Err.ensures in
    fault (c.if-not-can_take.ensures.0 refl) e.0 e.1 e.2

pub returns-in-Err-clause-exact : goal.returns-in-Err-clause-exact
returns-in-Err-clause-exact c = decided_fault (omega arith) (c.if-not-can_take.ensures.0 refl) c.in-Err.ensures.0
