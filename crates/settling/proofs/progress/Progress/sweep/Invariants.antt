use Rattle.runs.specs.Settle.{Turns, Turn}
use Rattle.settling.specs.Kept.{state_of, Kept}
use Rattle.settling.specs.Report.{Report}
use Rattle.settling.proofs.progress.Progress.sweep.Given as goal

abbrev pub invariant-loop-rule : goal.invariant-loop-rule
invariant-loop-rule g l =
    Turns (Turn (g.B.RuleBook.meaning l.initial.self.book.now) l.initial.self.rules) l.rule (state_of l.initial.self) (state_of l.self)
    × Report l.removed (state_of l.initial.self) (state_of l.self)
    × Kept l.initial.self l.self
