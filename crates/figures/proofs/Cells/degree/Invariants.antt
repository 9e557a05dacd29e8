use Rattle.std.proofs.Common.{◌≡◌, ◌*◌, ◌≤◌, map, sum}
use Rattle.std.specs.List.{range_with_len}
use Rattle.runs.specs.Figures.{share}
use Rattle.figures.proofs.Cells.degree.Given as goal

abbrev pub invariant-loop-rule : goal.invariant-loop-rule
invariant-loop-rule g l =
    (l.sum ≡ sum (map (share (g.B.RuleBook.meaning l.self.book.now) l.self.listed l.self.sets.now l.self.weights.now l.cell) (range_with_len 0 l.rule)))
    × (l.sum ≤ l.rule * 4294967295)
