use Rattle.bits.proofs.Low.{low_trailing}
use Rattle.bits.proofs.lowest.Goals as goal

pub returns-clause-is : goal.returns-clause-is
returns-clause-is c = low_trailing 64 c.args.set c.ranges.set.fits c.if-set-eq0.false
