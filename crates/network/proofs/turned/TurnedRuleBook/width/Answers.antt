use Rattle.std.proofs.Common.{sym, ◌∙◌}
use Rattle.network.specs.Book.{flag_at}
use Rattle.network.proofs.Books.{turn_width}
use Rattle.network.proofs.turned.TurnedRuleBook.width.Goals as goal

pub returns : goal.returns
returns g c = c.width.ensures ∙ sym (turn_width (flag_at c.args.self.now.flags c.args.rule) ((g.B.RuleBook.meaning c.args.self.now.below).rule c.args.rule))
