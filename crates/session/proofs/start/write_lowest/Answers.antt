use Rattle.std.proofs.Common.{◌<◌, length, arith}
use Rattle.session.proofs.Starting.{lowest_more}
use Rattle.session.proofs.start.write_lowest.Goals as goal

pub loop-cell-preserved : goal.loop-cell-preserved
loop-cell-preserved c =
    let lt : c.loop-cell.cell < length c.loop-cell.filling = omega (arith, c.requires, c.loop-cell-test.true, c.loop-cell.auto.filling) in
    lowest_more c.args.sets.now c.loop-cell.filling c.args.filling.now c.loop-cell.cell c.lowest_byte.result c.loop-cell-test.true lt c.lowest_byte.ensures c.loop-cell.invariant
