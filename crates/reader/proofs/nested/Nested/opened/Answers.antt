use Rattle.std.proofs.Common.{arith}
use Rattle.reader.proofs.Assembly.{ready_open}
use Rattle.reader.proofs.nested.Nested.opened.Goals as goal

pub invariant_of-result : goal.invariant_of-result
invariant_of-result c = record { ready = ready_open c.args.self (omega arith) c.requires c.in_ok-inner.ensures (omega arith) }
