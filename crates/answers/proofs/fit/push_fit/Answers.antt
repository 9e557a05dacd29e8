use Rattle.std.proofs.Common.{ℕ, ◌+◌, ◌*◌, [], get_or, ℤ, pos, sym, ap, subst, rules}
use Rattle.std.proofs.lemmas.Result.{IfOk-weaker}
use Rattle.calls.specs.Sheet.{sheet}
use Rattle.calls.specs.Promise.{FillingsAndCores}
use Rattle.calls.specs.Runs.{PlaysByRuns, fresh}
use Rattle.session.specs.Calls.{lasting_of}
use Rattle.calls.proofs.Following.{refused_not_done}
use Rattle.text.specs.Text.{fault_text}
use Rattle.answers.specs.Answers.{usual, usual_start, FitText, unopened}
use Rattle.answers.proofs.Telling.{opens_few, told}
use Rattle.answers.proofs.fit.push_fit.Goals as goal

pub returns-in-Err : goal.returns-in-Err
returns-in-Err g c = IfOk-weaker c.push_fault.result _ _
    (λ _ e. (
      _,
      e,
      subst (λ n. FitText usual usual_start (sheet c.args.lengths.now (g.B.RuleBook.meaning c.args.book)) (λ x v. get_or c.args.numbers.now (64 * x + v) (pos 0)) (fault_text n 0)) (sym c.number.ensures)
          (unopened c.in-Err.ensures (refused_not_done c.in-Err.refusal)),
    )) c.push_fault.ensures

pub overflow_cast-cells : goal.overflow_cast-cells
overflow_cast-cells g c = let f = opens_few (sheet c.args.lengths.now (g.B.RuleBook.meaning c.args.book)) c.in_default.ensures in search rules

pub returns : goal.returns
returns g c =
    let s = sheet c.args.lengths.now (g.B.RuleBook.meaning c.args.book) in
    let number : ℕ → ℕ → ℤ = λ x v. get_or c.args.numbers.now (64 * x + v) (pos 0) in
    let b = c.requires.step in
    let after = c.play.new.steps in
    let promise = subst (λ l. FillingsAndCores s l after) c.requires.alone c.play.ensures.fillings_and_cores in
    let runs = subst (λ l. PlaysByRuns usual s [] (fresh usual_start) l after (lasting_of c.play.result)) c.requires.alone
    (subst (λ x. PlaysByRuns usual s [] (fresh x) c.args.steps.now after (lasting_of c.play.result)) c.new.ensures c.play.ensures.runs) in
    let text = told usual usual_start s number b after (lasting_of c.play.result) c.requires.call c.in_default.ensures c.requires.enough promise runs (get_or after 0 c.index-steps-0.result) (ap (get_or after 0) c.index-steps-0.is) in
    IfOk-weaker c.push_answer.result _ _ (λ _ e. (_, e, text)) c.push_answer.ensures
