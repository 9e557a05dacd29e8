-- A permitted row of allowed places is support for a formula, and support is one. Assumes nothing.
use Rattle.std.proofs.Common.{◌≡◌, ℕ, ◌<◌, ◌≤◌, Bool, true, false, List, length, get_or, take, Decides, sym, subst, ⊎_elim, arith}
use Rattle.std.proofs.lemmas.Bool.{and_parts, cases_Bool, both_ways}
use Rattle.network.specs.Book.{Supported}
use Rattle.network.specs.Tries.{Allows, Tried}
use Rattle.network.proofs.Supports.{supported_row, row_tried}
use Rattle.formulas.specs.declared.node.Node.{Node}
use Rattle.reader.specs.declared.formula.Formula.{Formula}
use Rattle.formula_book.specs.Formulas.{Lists, GoodRule, cells_of, listed, permits_of, rule_of}
use Rattle.formula_book.specs.FormulaLaws.{width_of, cell_of}
use Rattle.formula_book.specs.Support.{ListedOf}
use Rattle.formula_book.proofs.Cut.{tried_with}
use Rattle.formula_book.proofs.Listed.{listed_decides}

module _ (l : Lists) (ns : List Node) (f : Formula) (fit : GoodRule ns f) (i v : ℕ) (within : i < f.width)
    (sets allowed masks : List ℕ) (four : length allowed ≡ 4) (allows : Allows f.cells i v sets allowed)
    (also_four : length masks ≡ 4) (listed_of : ListedOf l.lengths f.cells allowed masks) where
  wide : length (cells_of f) ≡ f.width
  wide = width_of f

  first : (k : ℕ) → k < length (cells_of f) → get_or (cells_of f) k 255 ≡ get_or f.cells k 0
  first k h = cell_of f k 255 (omega (arith, wide))

  few : length (cells_of f) ≤ 4
  few = omega (arith, wide, fit.good.few)

  abbrev Allowed : List ℕ → Type 0
  Allowed row = Tried (take f.width masks) row

  -- each place of a permitted row is of its cell's list
  in_list : (row : List ℕ) → permits_of l ns f row ≡ true → (k : ℕ) → k < f.width → get_or row k 0 < get_or l.lengths (get_or f.cells k 0) 0
  in_list row p k h =
      let each = ((listed_decides l (cells_of f) row).0 (and_parts (listed l (cells_of f) row) _ p).0).1 in
      subst (λ c. get_or row k 0 < get_or l.lengths c 0) (cell_of f k 0 h) (each k (omega (arith, wide)))

  pub formula_supported : (t : Bool)
      → (t ≡ true → (row : List ℕ) × Allowed row × (permits_of l ns f row ≡ true))
      → (t ≡ false → (row : List ℕ) → Allowed row → permits_of l ns f row ≡ false)
      → Decides t (Supported (rule_of l ns f) i v sets)
  formula_supported t found_one found_none = (
    (λ e.
        let found = found_one e in
        supported_row (rule_of l ns f) f.cells first few i v sets allowed four allows (omega (arith, wide)) found.0
        (subst (λ n. Tried (take n allowed) found.0) (sym wide)
        (tried_with f.width masks allowed found.0 fit.good.few also_four four (λ k h low a. ((listed_of k low _).0 a).0) found.1)) found.2),
    (λ s. ⊎_elim (λ y. y)
        (λ n. absurd (both_ways _ (found_none n s.row
        (tried_with f.width allowed masks s.row fit.good.few four also_four (λ k h low a. (listed_of k low _).1 (a, in_list s.row s.permitted k h))
        (subst (λ n. Tried (take n allowed) s.row) wide (row_tried (rule_of l ns f) f.cells first few i v sets allowed four allows s)))) s.permitted))
        (cases_Bool t)),
  )
