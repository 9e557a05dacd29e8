-- What a book tells of its formulas. Assumes nothing.
use Rattle.std.proofs.Common.{◌≡◌, ℕ, ◌<◌, ◌≤◌, List, length, get_or, take, sym, ap, ◌∙◌, subst, arith}
use Rattle.std.proofs.lemmas.List.{get_or_past, ext_get_or, get_or-take, length-take-le}
use Rattle.formulas.specs.declared.node.Node.{Node}
use Rattle.reader.specs.declared.formula.Formula.{Formula}
use Rattle.formula_book.specs.Formulas.{GoodRule, WellFormed, cells_of, no_formula}
use Rattle.formula_book.specs.FormulaLaws.{width_of, cell_of}

module _ (fs : List Formula) (r : ℕ) where
  abbrev cells : List ℕ
  cells = cells_of (get_or fs r no_formula)

  pub width_past : length fs ≤ r → 0 ≡ length cells
  width_past past = sym (width_of (get_or fs r no_formula) ∙ ap (λ (f : Formula). f.width) (get_or_past fs r no_formula past))

  module _ (f : Formula) (is : f ≡ get_or fs r no_formula) where
    pub width_here : f.width ≡ length cells
    width_here = ap (λ (f : Formula). f.width) is ∙ sym (width_of (get_or fs r no_formula))

    module _ (k : ℕ) where
      pub cell_here : k < f.width → get_or f.cells k 0 ≡ get_or cells k 255
      cell_here h = sym (cell_of f k 255 h) ∙ ap (λ f. get_or (cells_of f) k 255) is

      pub cell_past : f.width ≤ k → 255 ≡ get_or cells k 255
      cell_past h = sym (get_or_past cells k 255 (omega (arith, width_here)))

-- a formula that is there is fit
pub there_fit : {ns : List Node} {fs : List Formula} → WellFormed ns fs → (r : ℕ) (f : Formula) → r < length fs → f ≡ get_or fs r no_formula → GoodRule ns f
there_fit {ns} ok r f h is = subst (λ x. GoodRule ns x) (sym is) (ok.each r h)

-- its cells are the first of those that it has room for
pub cells_first : (f : Formula) → f.width ≤ length f.cells → take f.width f.cells ≡ cells_of f
cells_first f room = ext_get_or 0 (take f.width f.cells) (cells_of f) (wide ∙ sym (width_of f))
    (λ k h. let in_row : k < f.width = omega (arith, wide) in get_or-take f.width f.cells k 0 in_row ∙ sym (cell_of f k 0 in_row))
  where
    wide : length (take f.width f.cells) ≡ f.width
    wide = length-take-le f.width f.cells room
