use Rattle.std.proofs.Common.{◌≡◌, suc, true, false, ◌&&◌, sym, ap, ◌∙◌, subst, ⊎_elim, arith}
use Rattle.std.proofs.lemmas.Bool.{cases_Bool}
use Rattle.std.proofs.lemmas.Bool.Decides.{not_from_Decides}
use Rattle.formulas.specs.Truth.{truth}
use Rattle.judge.specs.Trees.{tree}
use Rattle.formula_book.specs.Formulas.{assigned, cells_of, listed, unset}
use Rattle.formula_book.specs.Support.{lists_of}
use Rattle.formula_book.proofs.Cells.{cells_first}
use Rattle.formula_book.proofs.Listed.{Listed, listed_decides}
use Rattle.formula_book.proofs.book.FormulaBook.permits.Goals as goal

pub returns-then-are_listed : goal.returns-then-are_listed
returns-then-are_listed c =
    let b = c.args.self.now in
    let lists = lists_of b.lengths.now b.numbers.now in
    let f = c.args.formula.now in
    let row = c.args.row.now in
    let condition = tree (suc f.root) b.nodes.now f.root in
    let first = cells_first f (omega (arith, c.requires.good.few)) in
    let yes : listed lists (cells_of f) row ≡ true = (listed_decides lists (cells_of f) row).1 (subst (λ cs. Listed lists cs row) first (c.are_listed.ensures.0 c.if-are_listed.true)) in
    c.holds.ensures.any_node (suc f.root) (omega arith)
    ∙ ap (λ ns. truth ns condition) (c.assigned.ensures ∙ ap (λ cs. assigned lists unset cs row) first)
    ∙ sym (ap (λ b. b && truth (assigned lists unset (cells_of f) row) condition) yes)

pub returns-else-are_listed : goal.returns-else-are_listed
returns-else-are_listed c =
    let b = c.args.self.now in
    let lists = lists_of b.lengths.now b.numbers.now in
    let f = c.args.formula.now in
    let row = c.args.row.now in
    let first = cells_first f (omega (arith, c.requires.good.few)) in
    let no : listed lists (cells_of f) row ≡ false =
    ⊎_elim
    (λ t. absurd (not_from_Decides c.are_listed.result c.are_listed.ensures c.if-are_listed.false (subst (λ cs. Listed lists cs row) (sym first) ((listed_decides lists (cells_of f) row).0 t))))
    (λ n. n)
    (cases_Bool (listed lists (cells_of f) row)) in
    c.if-are_listed.false ∙ sym (ap (λ t. t && truth (assigned lists unset (cells_of f) row) (tree (suc f.root) b.nodes.now f.root)) no)
