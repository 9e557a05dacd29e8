-- Proofs that well-formed stores keep the laws of a rule book. Assumes nothing.
-- They stand in specs/ since the laws of a type may cite nothing else of its own crate. The check proves them, so no reader has to believe them.
use Rattle.std.specs.Prelude.{◌≡◌, ℕ, ◌<◌, List, length, slice_index, slice_index_or}
use Rattle.std.proofs.Common.{sym, ap, ◌∙◌, arith}
use Rattle.std.proofs.lemmas.List.{get_or_past}
use Rattle.std.proofs.lemmas.List.FromFn.{length-map-range_with_len, get_or-map-range_with_len}
use Rattle.network.specs.Book.{Lawful, Sound}
use Rattle.formulas.specs.declared.node.Node.{Node}
use Rattle.reader.specs.declared.formula.Formula.{Formula}
use Rattle.formula_book.specs.Formulas.{Lists, GoodRule, WellFormed, cells_of, rule_of, formula_book, no_formula}

-- a stored formula has as many cells as its width says
pub width_of : (f : Formula) → length (cells_of f) ≡ f.width
width_of f = length-map-range_with_len (λ k. slice_index f.cells k) 0 f.width

-- they are the first of its stored cells
pub cell_of : (f : Formula) (k d : ℕ) → k < f.width → slice_index_or (cells_of f) k d ≡ slice_index f.cells k
cell_of f k d h = get_or-map-range_with_len (λ j. slice_index f.cells j) 0 f.width k k d h (omega arith)

-- they are good where the stored formula is
sound : (l : Lists) (ns : List Node) (f : Formula) → GoodRule ns f → Sound (rule_of l ns f)
sound l ns f fit =
    let w = width_of f in
    record {
      some = rw w fit.good.some;
      few = rw w fit.good.few;
      small = λ k m.
          let m' : k < f.width = omega (arith, w) in
          rw (cell_of f k 255 m') (fit.good.small k m');
      apart = λ j k lt m e.
          let m' : k < f.width = omega (arith, w) in
          let n' : j < f.width = omega arith in
          fit.good.apart j k lt m' (sym (cell_of f j 255 n') ∙ e ∙ cell_of f k 255 m');
    }

-- the book of well-formed stores is lawful
pub formula_lawful : (l : Lists) (ns : List Node) (fs : List Formula) → WellFormed ns fs → Lawful (formula_book l ns fs)
formula_lawful l ns fs ok = record {
  bounded = ok.few;
  sound = λ r h. sound l ns (slice_index_or fs r no_formula) (ok.each r h);
  missing = λ r h. ap cells_of (get_or_past fs r no_formula h);
}
