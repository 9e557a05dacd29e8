use Rattle.std.proofs.Common.{◌≡◌, ℕ, length, ap, ◌∙◌, arith}
use Rattle.std.proofs.lemmas.List.FromFn.{fill_by_all}
use Rattle.choosers.specs.Choice.{no_figure}
use Rattle.runs.specs.Figures.{figure_of}
use Rattle.figures.proofs.Figuring.{figures_more}
use Rattle.figures.proofs.Cells.choose_at.Goals as goal

pub loop-cell-preserved : goal.loop-cell-preserved
loop-cell-preserved g c =
    figures_more
    (figure_of (g.B.RuleBook.meaning c.args.self.now.book.now) c.args.self.now.listed c.args.self.now.sets.now c.args.self.now.weights.now)
    c.loop-cell.figures c.loop-cell.cell c.figure.result (omega (arith, c.loop-cell.auto.figures)) c.figure.ensures c.loop-cell.invariant

pub returns : goal.returns
returns g c =
    let n : ℕ = length c.args.self.now.sets.now in
    let long : length c.loop-cell.figures ≡ n = c.loop-cell.auto.figures ∙ c.requires in
    c.choose.ensures
    ∙ ap (g.C.Chooser.meaning.names c.args.chooser.now)
    (fill_by_all (figure_of (g.B.RuleBook.meaning c.args.self.now.book.now) c.args.self.now.listed c.args.self.now.sets.now c.args.self.now.weights.now)
    c.loop-cell.figures n no_figure long (λ k l. c.loop-cell.invariant k (omega arith)))
