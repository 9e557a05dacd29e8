use Rattle.std.proofs.Common.{codes, sym, subst, ◌∙◌}
use Rattle.std.proofs.lemmas.Result.{IfOk-weaker}
use Rattle.run_lines.specs.Lines.{numbers_line}
use Rattle.first_run.specs.FirstRun.{Found, filling, used}
use Rattle.first_run.proofs.Ending.{alone_lowest}
use Rattle.first_run.proofs.telling.push_found.Goals as goal

pub returns-in_ok-lowest_places-in-Met : goal.returns-in_ok-lowest_places-in-Met
returns-in_ok-lowest_places-in-Met c =
    let places = c.in_ok-lowest_places-in-Met.field-0.items in
    let low = c.in_ok-lowest_places-in-Met.ensures in
    let some = c.requires c.in-Met.is in
    IfOk-weaker c.push_numbers.result _ _
    (λ _ e. (_, e, subst (λ l. Found c.args.line.now c.args.sets.now (numbers_line (codes "filling") l)) (sym c.deref.ensures.value) (filling c.in-Met.is (alone_lowest c.args.sets.now some.0 places some.1 low.0 low.1))))
    c.push_numbers.ensures

pub returns-in_ok-rules_in-in-Unmet : goal.returns-in_ok-rules_in-in-Unmet
returns-in_ok-rules_in-in-Unmet c =
    IfOk-weaker c.push_numbers-in-Unmet.result _ _
    (λ _ e. (_, e, subst (λ l. Found c.args.line.now c.args.sets.now (numbers_line (codes "used") l)) (sym (c.deref-in-Unmet.ensures.value ∙ c.in_ok-rules_in-in-Unmet.ensures)) (used c.in-Unmet.is)))
    c.push_numbers-in-Unmet.ensures
