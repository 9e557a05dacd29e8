use Rattle.std.proofs.Common.{vec_items}
use Rattle.permits.specs.Lists.{Listed}
use Rattle.permits.proofs.lists.list_in.Given as goal

abbrev pub invariant-loop-word : goal.invariant-loop-word
invariant-loop-word l = Listed (vec_items l.list)
