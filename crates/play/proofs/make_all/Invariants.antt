use Rattle.std.proofs.Common.{◌≡◌, [], take, drop}
use Rattle.calls.specs.Runs.{StepDone}
use Rattle.session.specs.Calls.{sheet_of, lasting_of}
use Rattle.play.specs.Held.{Holds, latest}
use Rattle.play.proofs.Playing.{MorePlays}
use Rattle.play.proofs.make_all.Given as goal

-- after the calls so far, what follows from here follows from the start
abbrev pub invariant-loop-step : goal.invariant-loop-step
invariant-loop-step g l =
    let s = sheet_of g.B.RuleBook.meaning l.initial.session in
    (sheet_of g.B.RuleBook.meaning l.session ≡ s)
    × (l.session.book ≡ l.initial.session.book)
    × (drop l.step-index l.steps ≡ drop l.step-index l.initial.steps)
    × Holds l.initial.session.lengths.now (latest [] (take l.step-index l.steps)) l.session.table
    × MorePlays s (StepDone g.C.Chooser.meaning s) (lasting_of l.initial.session) (take l.step-index l.initial.steps) (take l.step-index l.steps) (latest [] (take l.step-index l.steps)) (lasting_of l.session)
