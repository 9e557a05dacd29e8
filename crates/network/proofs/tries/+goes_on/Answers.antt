use Rattle.std.proofs.Common.{◌≡◌, get_or, take, false, subst, ⊎_elim, arith}
use Rattle.std.specs.Fn.{FnReturnsAt}
use Rattle.std.proofs.lemmas.Fn.{says_at}
use Rattle.std.proofs.lemmas.Bool.{cases_lt}
use Rattle.std.proofs.lemmas.Bool.Decides.{not_from_Decides}
use Rattle.network.specs.Tries.{Allowed}
use Rattle.network.proofs.Chosen.{all_chosen, only_chosen, has_place}
use Rattle.network.proofs.tries.+goes_on.Goals as goal
use Rattle.network.proofs.tries.+goes_on.Goals.{then-has+else-goes_on, else-has}

pub returns-then-at-masks-clause-yes : goal.returns-then-at-masks-clause-yes
returns-then-at-masks-clause-yes g t c e = (
  take c.args.at c.args.places,
  all_chosen c.args.masks.each.now c.args.places c.args.at c.if-at-masks.true (omega arith),
  says_at g.F.Fn c.passes.ensures e,
)

pub returns-then-at-masks-clause-no : goal.returns-then-at-masks-clause-no
returns-then-at-masks-clause-no g t c e row r =
    subst (λ x. FnReturnsAt g.F.Fn c.args.passes.now x false)
    (only_chosen c.args.masks.each.now c.args.places c.args.at c.if-at-masks.true (omega arith) row r)
    (says_at g.F.Fn c.passes.ensures e)

pub loop-place-preserved : goal.loop-place-preserved
loop-place-preserved g t c row r h = ⊎_elim
    (λ below. c.loop-place.invariant row r below)
    (λ from.
    let is : get_or row c.args.at 0 ≡ c.loop-place.place = omega arith in
    elim c.if-has.branch [
      | then-has+else-goes_on w ↦
          w.goes_on.ensures.no w.if-goes_on.false row (has_place c.args.masks.each.now c.args.places c.args.at c.loop-place.place (omega arith) row is r)
      | else-has w ↦
          absurd (not_from_Decides c.has.result c.has.ensures w.if-has.false
          (subst (Allowed c.args.masks.each.now c.args.at) is (r.each c.args.at (omega arith) (omega arith))))
    ])
    (cases_lt (get_or row c.args.at 0) c.loop-place.place)
