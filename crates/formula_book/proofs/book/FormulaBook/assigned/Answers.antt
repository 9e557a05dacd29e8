use Rattle.std.proofs.Common.{◌≡◌, ℕ, suc, ◌<◌, rules, length, get_or, set, w32, to_z, of_z, sym, ap, ◌∙◌, ap₂, subst, arith}
use Rattle.formula_book.specs.Formulas.{assigned, number_at}
use Rattle.formula_book.specs.Support.{lists_of}
use Rattle.formula_book.proofs.book.FormulaBook.assigned.Goals as goal

pub loop-cell-preserved : goal.loop-cell-preserved
loop-cell-preserved c =
    let lists = lists_of c.args.self.now.lengths.now c.args.self.now.numbers.now in
    let steps = c.in-Some.ensures.steps in
    let left = c.next.new.self.a.rest.now in
    let right = c.next.new.self.b.rest.now in
    let is : to_z w32 (of_z w32 c.number.result) ≡ number_at lists c.in-Some.cell.now c.in-Some.place.now = search rules in (
      ap (λ n. assigned lists (set c.loop-cell.numbers c.in-Some.cell.now n) left right) is
          ∙ sym (ap₂ (λ cs row. assigned lists c.loop-cell.numbers cs row) steps.0 steps.1)
          ∙ c.loop-cell.invariant.0,
      λ k h. subst (λ cs. (k : ℕ) → k < length cs → get_or cs k 0 < 64) steps.0 c.loop-cell.invariant.1 (suc k) (omega arith),
    )
