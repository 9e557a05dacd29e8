use Rattle.std.proofs.Common.{refl}
use Rattle.runs.proofs.Chosen.{named_within}
use Rattle.search.proofs.Tries.{open_some, picks}
use Rattle.search.proofs.explore.next_trial.Goals as goal

pub bounds-progress-cell : goal.bounds-progress-cell
bounds-progress-cell g c =
    (named_within (g.B.RuleBook.meaning c.args.progress.now.book.now) c.args.progress.now.rules c.args.progress.now.sets.now c.args.progress.now.weights.now
    g.C.Chooser.meaning g.C.Chooser.laws c.args.chooser.now c.choose-cell.result c.choose-cell.ensures c.if-cell.false).0

pub unreachable-requires : goal.unreachable-requires
unreachable-requires g c =
    let named = named_within (g.B.RuleBook.meaning c.args.progress.now.book.now) c.args.progress.now.rules c.args.progress.now.sets.now c.args.progress.now.weights.now
    g.C.Chooser.meaning g.C.Chooser.laws c.args.chooser.now c.choose-cell.result c.choose-cell.ensures c.if-cell.false in
    open_some _ named.1 (c.in_default.ensures.empty.0 refl)

pub returns : goal.returns
returns g c = picks g.C.Chooser.meaning g.C.Chooser.laws _ _ _ _ _ _ c.choose-cell.ensures c.if-cell.false c.in-Some.ensures.is.0
