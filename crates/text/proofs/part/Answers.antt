use Rattle.text.proofs.Ranges.{part_cut}
use Rattle.text.proofs.part.Goals as goal

pub returns : goal.returns
returns g c = part_cut c.args.items.now c.args.count c.args.from c.min-from.result c.min-count.result c.min-from.ensures c.min-count.ensures
