use Rattle.std.proofs.Common.{sym, refl, subst, arith}
use Rattle.std.proofs.lemmas.Result.{IfOk-weaker}
use Rattle.calls.specs.Sheet.{Enough}
use Rattle.answers.proofs.fit.fit_step.Goals as goal

pub returns-clause-one : goal.returns-clause-one
returns-clause-one c =
    IfOk-weaker c.step.result _ _
    (λ s e. record { step = s; alone = refl; call = e.0; enough = subst Enough (sym e.1) (record { work = omega arith; log = omega arith; filling = omega arith }) })
    c.step.ensures
