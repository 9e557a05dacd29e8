use Rattle.runs.specs.Settle.{Turns, Revises}
use Rattle.settling.specs.Kept.{state_of, Kept}
use Rattle.settling.specs.Report.{Report}
use Rattle.settling.proofs.progress.Progress.revise_position.Given as goal

abbrev pub invariant-loop-place : goal.invariant-loop-place
invariant-loop-place g l =
    Turns (Revises (g.B.RuleBook.meaning l.initial.self.book.now) l.rule l.position) l.place (state_of l.initial.self) (state_of l.self)
    × Report l.removed (state_of l.initial.self) (state_of l.self)
    × Kept l.initial.self l.self
