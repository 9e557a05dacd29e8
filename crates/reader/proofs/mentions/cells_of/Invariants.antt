use Rattle.std.proofs.Common.{◌≤◌, [], take}
use Rattle.formulas.specs.Tree.{noted}
use Rattle.reader.specs.Mentions.{Holds, mentioned}
use Rattle.reader.proofs.mentions.cells_of.Given as goal

abbrev pub invariant-loop-node : goal.invariant-loop-node
invariant-loop-node l = (few : l.named.1.0 ≤ 4) × Holds (noted [] (mentioned (take l.node-index l.nodes))) (record { cells = l.named.0; count = l.named.1.0; few = few })
