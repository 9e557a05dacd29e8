use Rattle.std.proofs.Common.{◌≤◌, arith}
use Rattle.std.proofs.lemmas.Nat.{mul-le}
use Rattle.rows.proofs.Pigeon.{within_small}
use Rattle.rows.proofs.search.allowed_rows.Goals as goal

pub overflow_mul-rows : goal.overflow_mul-rows
overflow_mul-rows c =
    let few : c.loop-mask.rows ≤ 262144 = omega (arith, c.loop-mask.invariant, within_small c.args.masks.each.now c.loop-mask.mask-index (omega arith)) in
    omega (arith, mul-le c.loop-mask.rows c.count.result 262144 64 few c.count.ensures.most)
