use Rattle.std.proofs.Common.{◌^◌, true, sym, refl, ap, ◌∙◌, arith}
use lib.Bits.{bit_or}
use Rattle.session.proofs.Starting.{where_on, where_none}
use Rattle.first_run.proofs.start.all_rules.Goals as goal

pub loop-rule-init : goal.loop-rule-init
loop-rule-init c = where_none (λ r. true)

pub loop-rule-preserved : goal.loop-rule-preserved
loop-rule-preserved c =
    c.with-rules.ensures.more (omega arith) ∙ ap (λ s. bit_or s (2 ^ c.loop-rule.rule)) c.loop-rule.invariant ∙ sym (where_on (λ r. true) c.loop-rule.rule refl)
