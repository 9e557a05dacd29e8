use Rattle.std.proofs.Common.{refl, arith}
use Rattle.bits.proofs.Bits.{in_below}
use Rattle.readiness.proofs.ready.are_known.Goals as goal

pub returns : goal.returns
returns c = (λ _ r k. c.loop-rule.invariant r (let small = in_below c.args.rules 64 r (omega arith) k in omega arith) k, λ _. refl)
