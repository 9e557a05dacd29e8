use Rattle.std.proofs.Common.{◌≡◌, ◌<◌}
use Rattle.std.specs.Prelude.{MatchOption}
use Rattle.choosers.specs.Choice.{figure}
use Rattle.choosers.specs.Kinds.{pick}
use Rattle.choosers.proofs.best.best_open.Given as goal

abbrev pub invariant-loop-cell : goal.invariant-loop-cell
invariant-loop-cell g l =
    MatchOption l.best
    (pick g.P.Preference.better l.figures l.cell ≡ 255)
    (λ b. (pick g.P.Preference.better l.figures l.cell ≡ b.0) × (b.0 < 64) × (b.1 ≡ figure l.figures b.0))
