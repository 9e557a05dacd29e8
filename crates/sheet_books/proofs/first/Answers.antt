use Rattle.std.proofs.Common.{take, ap, ◌∙◌}
use Rattle.std.proofs.lemmas.List.{take_min}
use Rattle.sheet_books.proofs.first.Goals as goal

pub returns : goal.returns
returns g c = ap (λ n. take n c.args.items.now) c.min.ensures ∙ take_min c.args.count c.args.items.now
