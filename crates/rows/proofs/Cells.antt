-- What a book tells of its rules. Assumes nothing.
use Rattle.std.proofs.Common.{◌≡◌, ℕ, ◌<◌, ◌≤◌, List, length, get_or, sym, ap, ◌∙◌, subst, arith}
use Rattle.std.proofs.lemmas.List.{get_or_past}
use Rattle.rows.specs.declared.rule.RowsRule.{RowsRule}
use Rattle.rows.specs.Rows.{GoodRule, WellFormed, no_rows, rule_of}
use Rattle.rows.specs.RowsLaws.{width_of, cell_of}

module _ (bytes : List ℕ) (rules : List RowsRule) (r : ℕ) where
  abbrev cells : List ℕ
  cells = (rule_of bytes (get_or rules r no_rows)).cells

  pub width_past : length rules ≤ r → 0 ≡ length cells
  width_past past = sym (width_of bytes (get_or rules r no_rows) ∙ ap (λ (rule : RowsRule). rule.width) (get_or_past rules r no_rows past))

  module _ (rule : RowsRule) (is : rule ≡ get_or rules r no_rows) where
    pub width_here : rule.width ≡ length cells
    width_here = ap (λ (rule : RowsRule). rule.width) is ∙ sym (width_of bytes (get_or rules r no_rows))

    module _ (k : ℕ) where
      pub cell_here : k < rule.width → get_or rule.cells k 0 ≡ get_or cells k 255
      cell_here h = sym (cell_of bytes rule k 255 h) ∙ ap (λ rule. get_or (rule_of bytes rule).cells k 255) is

      pub cell_past : rule.width ≤ k → 255 ≡ get_or cells k 255
      cell_past h = sym (get_or_past cells k 255 (omega (arith, width_here)))

-- a rule that is there is fit
pub there_fit : {bytes : List ℕ} {rules : List RowsRule} → WellFormed rules bytes → (r : ℕ) (rule : RowsRule) → r < length rules → rule ≡ get_or rules r no_rows → GoodRule rule (length bytes)
there_fit {bytes} ok r rule h is = subst (λ x. GoodRule x (length bytes)) (sym is) (ok.each r h)
