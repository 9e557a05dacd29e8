use Rattle.std.proofs.Common.{◌∙◌}
use Rattle.choosers.proofs.Choosing.{chosen}
use Rattle.choosers.proofs.Orders.{fewer_ranks}
use Rattle.choosers.proofs.fewest.FewestChooser.choose.Goals as goal

pub returns : goal.returns
returns c =
    let named = c.unwrap_or.ensures ∙ c.best_open.ensures in
    record { named = named; best = chosen fewer_ranks c.args.figures.now _ named }
