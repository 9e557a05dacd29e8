use Rattle.std.proofs.Common.{◌+◌, ◌*◌}
use Rattle.formula_book.proofs.check.+is_child_is_grounded.Given as goal

abbrev pub decreases-is_child : goal.decreases-is_child
decreases-is_child l = 2 * l.parent

abbrev pub decreases-is_grounded : goal.decreases-is_grounded
decreases-is_grounded l = 2 * l.at + 1
