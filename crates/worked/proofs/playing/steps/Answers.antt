-- Each call adds the step that makes it.
use Rattle.std.proofs.Common.{sym, subst, arith}
use Rattle.calls.specs.Sheet.{Enough}
use Rattle.worked.proofs.Held.{make_at}
use Rattle.worked.proofs.playing.steps.Goals as goal

pub loop-call-preserved : goal.loop-call-preserved
loop-call-preserved c =
    make_at c.args.calls.now c.loop-call.steps.items c.push.new.self.items c.loop-call.call-index _ c.in_ok-step.field-0 c.loop-call-test.true c.loop-call.invariant
    (c.in_ok-step.ensures.0, subst Enough (sym c.in_ok-step.ensures.1) (record { work = omega arith; log = omega arith; filling = omega arith })) c.in_ok-push.ensures.items
