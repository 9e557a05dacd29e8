use Rattle.std.proofs.Common.{arith}
use Rattle.std.proofs.lemmas.Nat.{one_shl}
use Rattle.bits.proofs.Bits.{has_le}
use Rattle.bits.proofs.without.Goals as goal

pub overflow_sub-result : goal.overflow_sub-result
overflow_sub-result c =
    let there = c.has.ensures.0 c.if-has.true in
    omega (arith, has_le c.args.set c.args.v there.1, one_shl c.args.v 64 there.0)
