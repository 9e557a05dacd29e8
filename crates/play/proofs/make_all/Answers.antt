use Rattle.std.proofs.Common.{◌≡◌, ◌+◌, ◌<◌, List, [], ◌∷◌, length, get_or, take, set, sym, refl, ap, ◌∙◌, subst, arith}
use Rattle.std.proofs.lemmas.List.{take_all}
use Rattle.calls.specs.declared.step.Step.{Step}
use Rattle.calls.specs.Sheet.{Sheet}
use Rattle.calls.specs.History.{Did}
use Rattle.calls.specs.Plays.{did, Makes}
use Rattle.calls.specs.Runs.{StepDone}
use Rattle.session.specs.Calls.{sheet_of, lasting_of}
use Rattle.play.specs.Held.{Holds, latest}
use Rattle.play.proofs.Playing.{MorePlays, drop_next, plays_more, latest_more, plays_end}
use Rattle.play.proofs.make_all.Goals as goal

pub loop-step-init : goal.loop-step-init
loop-step-init g c = (refl, refl, refl, c.requires, λ before after y p. p)

pub loop-step-preserved : goal.loop-step-preserved
loop-step-preserved g c =
    let k = g.C.Chooser.meaning in
    let s = sheet_of g.B.RuleBook.meaning c.args.session.now in
    let i = c.loop-step.invariant in
    let e = c.args.steps.now in
    let n = c.loop-step.steps in
    let j = c.loop-step.step-index in
    let r = c.step-item.result in
    let x = get_or n j r in
    let is : x ≡ get_or n j x = ap (λ (z : Step). get_or n j z) c.step-item.is in
    let y = c.make.new.step in
    let u = c.loop-step.session in
    let v = c.make.new.session in
    let h = latest [] (take j n) in
    let lt : j < length n = omega (arith, c.loop-step-test.true, c.loop-step.auto.steps) in
    let long : length n ≡ length e = c.loop-step.auto.steps in
    let d = subst (λ (z : Sheet). (h : List Did) → Holds z.lengths h u.table → Makes z (StepDone k z) h (lasting_of u) x y (lasting_of v) × Holds z.lengths (did y ∷ h) v.table) i.0 c.make.ensures.makes h i.3 in
    let t = latest_more s (StepDone k s) e n j x y lt long i.2 is refl in (
      c.make.ensures.sheet ∙ i.0,
      c.make.ensures.book ∙ i.1,
      drop_next s (StepDone k s) e n j x y lt long i.2 is,
      subst (λ (z : List Did). Holds s.lengths z v.table) (sym t) d.1,
      subst (λ (z : List Did). MorePlays s (StepDone k s) (lasting_of c.args.session.now) (take (j + 1) e) (take (j + 1) (set n j y)) z (lasting_of v)) (sym t)
          (plays_more s (StepDone k s) e n j x y lt long i.2 is d.0 i.4),
    )

pub returns : goal.returns
returns g c =
    let s = sheet_of g.B.RuleBook.meaning c.args.session.now in
    let i = c.loop-step.invariant in
    let long : length c.loop-step.steps ≡ length c.args.steps.now = c.loop-step.auto.steps in
    record {
      sheet = i.0;
      book = i.1;
      plays = plays_end s (StepDone g.C.Chooser.meaning s) c.args.steps.now c.loop-step.steps c.loop-step.step-index c.loop-step-test.false long i.4;
      table = subst (λ (xs : List Step). Holds s.lengths (latest [] xs) c.loop-step.session.table) (take_all c.loop-step.step-index c.loop-step.steps (omega (arith, c.loop-step-test.false))) i.3;
    }
