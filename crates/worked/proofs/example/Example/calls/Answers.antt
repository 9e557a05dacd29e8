-- Every play of these calls was evaluated.
use Rattle.std.proofs.Common.{sym, subst, ⊎_elim}
use Rattle.worked.specs.declared.example.Example.TheVariants.{Opposed, LoneRule, NothingPermitted, NothingForbidden, Freed}
use Rattle.worked.specs.Examples.{Holds, calls_of}
use Rattle.worked.proofs.Results.{holds}
use Rattle.worked.proofs.example.Example.calls.Goals as goal

pub returns-in-Freed-clause-holds : goal.returns-in-Freed-clause-holds
returns-in-Freed-clause-holds c = subst (λ x. Holds x (calls_of Freed)) (sym c.in-Freed.is) (holds Freed)

pub returns-in-Opposed-clause-holds : goal.returns-in-Opposed-clause-holds
returns-in-Opposed-clause-holds c =
    ⊎_elim (λ e. subst (λ x. Holds x (calls_of Opposed)) (sym e) (holds Opposed))
    (⊎_elim (λ e. subst (λ x. Holds x (calls_of LoneRule)) (sym e) (holds LoneRule))
    (⊎_elim (λ e. subst (λ x. Holds x (calls_of NothingPermitted)) (sym e) (holds NothingPermitted)) (λ e. subst (λ x. Holds x (calls_of NothingForbidden)) (sym e) (holds NothingForbidden))))
    c.in-Opposed.is
