use Rattle.runs.specs.Settle.{Turns, Position}
use Rattle.settling.specs.Kept.{state_of, Kept}
use Rattle.settling.specs.Report.{Report}
use Rattle.settling.proofs.progress.Progress.revise_rule.Given as goal

abbrev pub invariant-loop-position : goal.invariant-loop-position
invariant-loop-position g l =
    Turns (Position (g.B.RuleBook.meaning l.initial.self.book.now) l.rule) l.position (state_of l.initial.self) (state_of l.self)
    × Report l.removed (state_of l.initial.self) (state_of l.self)
    × Kept l.initial.self l.self
