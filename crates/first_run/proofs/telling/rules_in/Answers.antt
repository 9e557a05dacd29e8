use Rattle.std.proofs.Common.{[], ◌∷◌, ◌++◌, vec_items, refl, sym, ap, ◌∙◌, arith}
use Rattle.std.proofs.lemmas.Bool.{false≢true}
use Rattle.bits.specs.Sets.{below}
use Rattle.bits.proofs.Members.{below_none, below_with, below_without, below_all}
use Rattle.first_run.proofs.telling.rules_in.Goals as goal
use Rattle.first_run.proofs.telling.rules_in.Goals.{then-has+in_ok-push, else-has}

pub loop-rule-init : goal.loop-rule-init
loop-rule-init c = c.new-rules.ensures.items ∙ below_none c.args.set

pub loop-rule-preserved : goal.loop-rule-preserved
loop-rule-preserved c =
    elim c.if-has.branch [
      | then-has+in_ok-push w ↦
          ap vec_items w.rules-is ∙ w.in_ok-push.ensures.items ∙ ap (λ x. vec_items c.loop-rule.rules ++ (x ∷ [])) w.from.ensures ∙ ap (λ l. l ++ (c.loop-rule.rule ∷ [])) c.loop-rule.invariant ∙ sym (below_with c.loop-rule.rule c.args.set (w.if-has.ensures.0 refl).1)
      | else-has w ↦
          ap vec_items w.rules-is ∙ c.loop-rule.invariant ∙ sym (below_without c.loop-rule.rule c.args.set (λ h. false≢true (w.if-has.ensures.1 (omega arith, h))))
    ]

pub returns : goal.returns
returns c = c.loop-rule.invariant ∙ ap (λ n. below n c.args.set) (omega arith) ∙ below_all c.args.set
