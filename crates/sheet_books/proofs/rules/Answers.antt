use Rattle.std.proofs.Common.{◌∙◌}
use Rattle.sheets.specs.Stored.{held}
use Rattle.sheet_books.proofs.Whole.{rules_mean}
use Rattle.sheet_books.proofs.rules.Goals as goal

pub returns : goal.returns
returns c = record {
  part = c.first.ensures;
  means = λ s h. c.first.ensures ∙ rules_mean (held c.args.stores.now) c.args.extent s h;
}
