use Rattle.std.proofs.Common.{◌≡◌, not, ◌&&◌, eqb, take}
use Rattle.std.specs.List.{list_any}
use Rattle.runs.specs.Figures.{open?}
use Rattle.figures.proofs.Cells.joins.Given as goal

abbrev pub invariant-loop-position : goal.invariant-loop-position
invariant-loop-position g l =
    let cells = ((g.B.RuleBook.meaning l.self.book.now).rule l.rule).cells in
    (l.here ≡ list_any (λ x. eqb x l.cell) (take l.position cells))
    × (l.elsewhere ≡ list_any (λ x. not (eqb x l.cell) && open? l.self.sets.now x) (take l.position cells))
