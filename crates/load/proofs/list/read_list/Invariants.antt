use Rattle.load.proofs.Lists.{SoFar}
use Rattle.load.proofs.list.read_list.Given as goal

abbrev pub invariant-loop-k : goal.invariant-loop-k
invariant-loop-k l = SoFar l.content l.initial.numbers l.numbers l.k
