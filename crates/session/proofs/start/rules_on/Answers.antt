use Rattle.std.proofs.Common.{◌≡◌, ℕ, ◌^◌, ◌<◌, false, length, get_or, take, sym, ap, ◌∙◌, arith}
use lib.Bits.{bit_or}
use Rattle.std.proofs.lemmas.List.{get_or-take, length-take-le}
use Rattle.session.proofs.Starting.{where_on, where_off, where_none}
use Rattle.session.proofs.start.rules_on.Goals as goal
use Rattle.session.proofs.start.rules_on.Goals.{then-on, else-on}

pub loop-rule-init : goal.loop-rule-init
loop-rule-init c = where_none (λ r. get_or c.args.switches.now r false)

pub loop-rule-preserved : goal.loop-rule-preserved
loop-rule-preserved c =
    let n = c.loop-rule.rule in
    let s = c.args.switches.now in
    let p = λ (r : ℕ). get_or c.args.switches.now r false in
    let long : length (take c.from.result s) ≡ c.from.result = length-take-le c.from.result s (omega (arith, c.from.ensures, c.requires, c.told-switches)) in
    let lt : n < 64 = omega (arith, long, c.from.ensures, c.requires, c.loop-rule-test.true) in
    let here : get_or (take c.from.result s) n false ≡ p n = get_or-take c.from.result s n false (omega (arith, long, c.loop-rule-test.true)) in
    elim c.if-on.branch [
      | then-on w ↦ w.rules-is ∙ w.with-rules.ensures.more lt ∙ ap (λ (x : ℕ). bit_or x (2 ^ n)) c.loop-rule.invariant ∙ sym (where_on p n (sym here ∙ w.if-on.true))
      | else-on w ↦ w.rules-is ∙ c.loop-rule.invariant ∙ sym (where_off p n (sym here ∙ w.if-on.false))
    ]

pub returns : goal.returns
returns c =
    let s = c.args.switches.now in
    let long : length (take c.from.result s) ≡ c.from.result = length-take-le c.from.result s (omega (arith, c.from.ensures, c.requires, c.told-switches)) in
    let end : c.loop-rule.rule ≡ c.args.count = omega (arith, long, c.from.ensures, c.loop-rule-test.false, c.loop-rule.auto.rule-end) in
    rw (sym end) c.loop-rule.invariant
