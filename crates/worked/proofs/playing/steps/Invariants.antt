use Rattle.std.proofs.Common.{take}
use Rattle.worked.specs.Shows.{Make}
use Rattle.worked.proofs.playing.steps.Given as goal

abbrev pub invariant-loop-call : goal.invariant-loop-call
invariant-loop-call l = Make (take l.call-index l.calls) l.steps.items
