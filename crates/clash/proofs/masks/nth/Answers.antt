use Rattle.std.proofs.Common.{sym, ◌∙◌, arith}
use Rattle.std.proofs.lemmas.Option.{slice_get_past}
use Rattle.bits.specs.Sets.{In, members}
use Rattle.std.proofs.lemmas.Bool.Decides.{not_from_Decides}
use Rattle.bits.proofs.Members.{at_end, count_more, nth_is}
use Rattle.bits.proofs.Size.{below_zero}
use Rattle.clash.proofs.masks.nth.Goals as goal
use Rattle.clash.proofs.masks.nth.Goals.{then-has+else-seen-place, else-has}

pub loop-rule-preserved : goal.loop-rule-preserved
loop-rule-preserved c =
    let s = c.args.set in
    let n = c.loop-rule.rule in
    let b = count_more n s c.loop-rule.seen c.loop-rule.invariant.0 in
    elim c.if-has.branch [
      | then-has+else-seen-place w ↦ (let h : In s n = (c.has.ensures.0 w.if-has.true).1 in omega (arith, w.seen-is), omega (arith, w.seen-is, w.if-seen-place.false), omega (arith, w.seen-is))
      | else-has w ↦ (let h : In s n → ⊥ = λ e. not_from_Decides c.has.result c.has.ensures w.if-has.false (c.loop-rule-test.true, e) in omega (arith, w.seen-is), omega (arith, w.seen-is), omega (arith, w.seen-is))
    ]

pub loop-rule-init : goal.loop-rule-init
loop-rule-init c = (sym (below_zero c.args.set), omega arith, omega arith)

pub returns-then-seen-place : goal.returns-then-seen-place
returns-then-seen-place c =
    nth_is c.args.set c.loop-rule.rule c.args.place c.loop-rule-test.true (c.has.ensures.0 c.if-has.true).1 (sym c.if-seen-place.true ∙ c.loop-rule.invariant.0)

pub returns : goal.returns
returns c = let e = at_end c.loop-rule.rule c.args.set (omega arith) in sym (slice_get_past (members c.args.set) c.args.place (omega (arith, c.loop-rule.invariant.0, c.loop-rule.invariant.1)))
