-- Proofs that well-formed stores keep the laws of a rule book. Assumes nothing.
-- They stand in specs/ since the laws of a type may cite nothing else of its own crate. The check proves them, so no reader has to believe them.
use Rattle.std.specs.Prelude.{◌≡◌, ℕ, ◌<◌, List, length, slice_index, slice_index_or}
use Rattle.std.proofs.Common.{sym, ap, ◌∙◌, arith}
use Rattle.std.proofs.lemmas.List.{get_or_past}
use Rattle.std.proofs.lemmas.List.FromFn.{length-map-range_with_len, get_or-map-range_with_len}
use Rattle.network.specs.Cells.{GoodCells}
use Rattle.network.specs.Book.{Lawful, Sound}
use Rattle.rows.specs.declared.rule.RowsRule.{RowsRule}
use Rattle.rows.specs.Rows.{WellFormed, rule_of, rows_book, no_rows}

module _ (bytes : List ℕ) (rule : RowsRule) where
  -- a stored rule has as many cells as its width says
  pub width_of : length (rule_of bytes rule).cells ≡ rule.width
  width_of = length-map-range_with_len (λ k. slice_index rule.cells k) 0 rule.width

  -- they are the first of its stored cells
  pub cell_of : (k d : ℕ) → k < rule.width → slice_index_or (rule_of bytes rule).cells k d ≡ slice_index rule.cells k
  cell_of k d h = get_or-map-range_with_len (λ j. slice_index rule.cells j) 0 rule.width k k d h (omega arith)

  -- they are good where the stored ones are
  sound : GoodCells rule.width rule.cells → Sound (rule_of bytes rule)
  sound good = record {
    some = rw width_of good.some;
    few = rw width_of good.few;
    small = λ k h.
        let h' : k < rule.width = omega (arith, width_of) in
        rw (cell_of k 255 h') (good.small k h');
    apart = λ j k lt h e.
        let h' : k < rule.width = omega (arith, width_of) in
        let l' : j < rule.width = omega arith in
        good.apart j k lt h' (sym (cell_of j 255 l') ∙ e ∙ cell_of k 255 h');
  }

-- the book of well-formed stores is lawful
pub rows_lawful : (rules : List RowsRule) (bytes : List ℕ) → WellFormed rules bytes → Lawful (rows_book rules bytes)
rows_lawful rules bytes ok = record {
  bounded = ok.few;
  sound = λ r h. sound bytes (slice_index_or rules r no_rows) (ok.each r h).good;
  missing = λ r h. ap (λ rule. (rule_of bytes rule).cells) (get_or_past rules r no_rows h);
}
