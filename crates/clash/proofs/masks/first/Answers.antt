use Rattle.std.proofs.Common.{ℕ, ◌^◌, ◌<◌, ◌≤◌, length, sym, ap, ◌∙◌, arith}
use lib.Bits.{bit_or}
use Rattle.bits.specs.Sets.{In, below}
use Rattle.std.proofs.lemmas.Bool.Decides.{not_from_Decides}
use Rattle.bits.proofs.SetOf.{first_begin, first_end, first_step_in, first_step_off, first_step_past}
use Rattle.bits.proofs.Members.{count_more}
use Rattle.bits.proofs.Size.{below_zero}
use Rattle.clash.proofs.masks.first.Goals as goal
use Rattle.clash.proofs.masks.first.Goals.{then-has, then-seen-many, else-seen-many, else-has}

pub loop-rule-preserved : goal.loop-rule-preserved
loop-rule-preserved c =
    let r = c.loop-rule.rule in
    let s = c.args.set in
    let n = c.args.many in
    let i = c.loop-rule.invariant in
    let b = count_more r s c.loop-rule.seen i.0 in
    elim c.if-has.branch [
      | then-has w ↦
          let h : In s r = (c.has.ensures.0 w.if-has.true).1 in (
            omega (arith, w.seen-is),
            omega (arith, w.seen-is),
            w.chosen-is ∙ elim w.if-seen-many.branch [
              | then-seen-many v ↦ v.chosen-is ∙ v.with-chosen.ensures.more c.loop-rule-test.true ∙ ap (λ (x : ℕ). bit_or x (2 ^ r)) i.2
                  ∙ sym (first_step_in r s n h (let q : length (below r s) < n = omega (arith, v.if-seen-many.true) in q))
              | else-seen-many v ↦ v.chosen-is ∙ i.2 ∙ sym (first_step_past r s n h (let q : n ≤ length (below r s) = omega (arith, v.if-seen-many.false) in q))
            ],
          )
      | else-has w ↦
          let h : In s r → ⊥ = λ e. not_from_Decides c.has.result c.has.ensures w.if-has.false (c.loop-rule-test.true, e) in
          (omega (arith, w.seen-is), omega (arith, w.seen-is), w.chosen-is ∙ i.2 ∙ sym (first_step_off r s n h))
    ]

pub loop-rule-init : goal.loop-rule-init
loop-rule-init c = (sym (below_zero c.args.set), omega arith, first_begin c.args.set c.args.many)

pub returns : goal.returns
returns c = c.loop-rule.invariant.2 ∙ first_end c.loop-rule.rule c.args.set c.args.many (omega arith)
