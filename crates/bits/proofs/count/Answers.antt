use Rattle.bits.proofs.Size.{ones_size}
use Rattle.bits.proofs.count.Goals as goal

pub returns-clause-size : goal.returns-clause-size
returns-clause-size c = ones_size c.args.set c.ranges.set.fits
