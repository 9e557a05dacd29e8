use Rattle.std.proofs.Common.{take}
use Rattle.replaying.specs.Sessions.{Prepared}
use Rattle.replaying.proofs.steps.steps.Given as goal

abbrev pub invariant-loop-line : goal.invariant-loop-line
invariant-loop-line l = Prepared (take l.line-index l.lines) l.steps.items
