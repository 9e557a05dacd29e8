use Rattle.std.proofs.Common.{◌∙◌, arith}
use Rattle.formula_book.proofs.Grounds.{child_deep}
use Rattle.formula_book.proofs.check.+is_child_is_grounded.Goals as goal

pub is_child-returns-then-at-parent : goal.is_child-returns-then-at-parent
is_child-returns-then-at-parent t c = c.is_grounded.ensures ∙ child_deep c.args.nodes.now c.args.parent c.args.at (omega arith)
