use Rattle.std.proofs.Common.{length, true, None, sym, ap, ◌∙◌, rules}
use Rattle.std.proofs.lemmas.Bool.{false≢true}
use Rattle.std.proofs.lemmas.List.{take_at}
use Rattle.calls.specs.Sheet.{sheet}
use Rattle.calls.specs.History.{set_where}
use Rattle.calls.proofs.Fillings.{starts_long}
use Rattle.first_run.proofs.Starting.{first_ready, first_made}
use Rattle.first_run.proofs.made.one_run.Goals as goal

pub unreachable-requires : goal.unreachable-requires
unreachable-requires g c =
    let s = sheet c.args.lengths.now (g.B.RuleBook.meaning c.args.book.now) in
    let ready = first_ready s (g.B.RuleBook.laws c.args.book.now) c.requires (c.deref.ensures.value ∙ c.in_ok-start.ensures) (c.all_rules-rules.ensures ∙ ap (set_where (λ r. true)) c.count.ensures) in
    false≢true (c.in_default.ensures.made.1 (ready, record { weighed = search rules; free = search rules; same = c.deref_mut-2.ensures.len ∙ c.in_ok-sets.ensures.len ∙ sym (ap length (c.deref.ensures.value ∙ c.in_ok-start.ensures) ∙ starts_long c.args.lengths.now (λ k. None)) }))

pub returns : goal.returns
returns g c =
    let s = sheet c.args.lengths.now (g.B.RuleBook.meaning c.args.book.now) in
    first_made s (g.B.RuleBook.laws c.args.book.now) c.requires (c.deref.ensures.value ∙ c.in_ok-start.ensures) (c.all_rules-rules.ensures ∙ ap (set_where (λ r. true)) c.count.ensures)
    c.new-chooser.result c.new-chooser.ensures c.in-Some.ensures.steps c.in-Some.ensures.right c.in-Some.ensures.fills (take_at c.run-made.new.sets _ _ (search rules))
