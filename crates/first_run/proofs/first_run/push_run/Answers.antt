use Rattle.std.proofs.Common.{sym, subst}
use Rattle.std.proofs.lemmas.Result.{IfOk-weaker}
use Rattle.calls.specs.Sheet.{sheet}
use Rattle.calls.proofs.Following.{refused_not_done}
use Rattle.text.specs.Text.{fault_text}
use Rattle.first_run.specs.FirstRun.{RunText, Told, unopened, made}
use Rattle.first_run.proofs.first_run.push_run.Goals as goal

pub returns-in-Err : goal.returns-in-Err
returns-in-Err g c =
    let s = sheet c.args.lengths.now (g.B.RuleBook.meaning c.args.book.now) in
    IfOk-weaker c.push_fault.result _ _
    (λ _ e. (_, e, subst (λ n. RunText s (fault_text n 0)) (sym c.number.ensures) (unopened c.in-Err.ensures (refused_not_done c.in-Err.refusal))))
    c.push_fault.ensures

pub returns : goal.returns
returns g c = IfOk-weaker c.push_made.result _ _
    (λ _ p. (p.0, p.1, made c.in_default.ensures c.in_ok-made.ensures (subst (λ n. Told n c.in_ok-made.made.line c.in_ok-made.made.weights c.in_ok-made.made.sets.items p.0) c.count.ensures p.2)))
    c.push_made.ensures
