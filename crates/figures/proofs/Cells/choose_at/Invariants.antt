use Rattle.std.proofs.Common.{◌≡◌, ℕ, ◌<◌, get_or}
use Rattle.choosers.specs.Choice.{no_figure}
use Rattle.runs.specs.Figures.{figure_of}
use Rattle.figures.proofs.Cells.choose_at.Given as goal

abbrev pub invariant-loop-cell : goal.invariant-loop-cell
invariant-loop-cell g l =
    (k : ℕ) → k < l.cell → get_or l.figures k no_figure ≡ figure_of (g.B.RuleBook.meaning l.self.book.now) l.self.listed l.self.sets.now l.self.weights.now k
