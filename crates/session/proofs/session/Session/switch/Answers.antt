use Rattle.std.proofs.Common.{Err, refl, ap, ◌∙◌, arith}
use Rattle.std.proofs.lemmas.Result.{err_from_is_err_and}
use Rattle.calls.specs.declared.call.Call.TheVariants.{Switch}
use Rattle.calls.specs.Sheet.{Judged.switches, Judged.switches_no_rule}
use Rattle.calls.proofs.Fillings.{few_rules}
use Rattle.session.specs.Calls.{sheet_of}
use Rattle.session.proofs.Changing.{changed_shut}
use Rattle.session.proofs.session.Session.switch.Goals as goal

pub returns-in_err-opened : goal.returns-in_err-opened
returns-in_err-opened g c =
    let p = err_from_is_err_and c.from_residual.result c.from_residual.ensures.1 in
    let q = c.in_err-opened.ensures in
    changed_shut g.B.RuleBook.meaning c.args.self.now (Switch c.args.rule c.args.on) c.from_residual.result (p.1 ∙ ap Err (p.2 ∙ q.0)) q.1

pub returns-then-rule-count : goal.returns-then-rule-count
returns-then-rule-count g c = record { judged = λ z. switches_no_rule c.in_ok-opened.ensures (omega (arith, c.count.ensures, c.if-rule-count.true)); refused = λ ne. refl; done = λ e. absurd (omega arith) }

pub bounds-self-rule : goal.bounds-self-rule
bounds-self-rule g c = omega (arith, few_rules (sheet_of g.B.RuleBook.meaning c.args.self.now) c.in_ok-opened.ensures, c.count.ensures, c.if-rule-count.false)

pub returns : goal.returns
returns g c = record { judged = λ z. switches c.in_ok-opened.ensures (omega (arith, c.count.ensures, c.if-rule-count.false)); refused = λ ne. absurd (ne refl); done = λ e. refl }
