use Rattle.std.proofs.Common.{[], ◌++◌, ◌∷◌, sym, subst}
use Rattle.replaying.specs.Sessions.{Prepared}
use Rattle.replaying.proofs.Preparing.{prepared_skip, prepared_push}
use Rattle.replaying.proofs.steps.push_step.Goals as goal

pub returns-in_default : goal.returns-in_default
returns-in_default c = λ ls p. prepared_skip c.args.line.now c.in_default.not-Call ls c.args.steps.now.items p

pub returns : goal.returns
returns c = λ ls p. subst (Prepared (ls ++ (c.args.line.now ∷ []))) (sym c.in_ok-push.ensures.items) (prepared_push c.args.line.now c.in-Call.call _ c.in-Call.is c.in_ok-step.ensures ls c.args.steps.now.items p)
