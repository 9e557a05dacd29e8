-- Rows that are stored. Assumes nothing.
use Rattle.std.proofs.Common.{◌≡◌, ℕ, suc, ◌+◌, ◌*◌, ◌/◌, ◌<◌, ◌≤◌, not, eqb, List, length, get_or, take, drop, Decides, sym, refl, ap, ◌∙◌, mul-le-mul_right, arith}
use Rattle.std.proofs.Math.Nat.{mul-div_cancel, suc-mul}
use Rattle.std.specs.Str.{bytes_eq}
use Rattle.std.proofs.lemmas.List.{ext_get_or, get_or-take, get_or-drop, length-take-le, length-drop}
use Rattle.std.proofs.lemmas.List.FromFn.{length-map-range_with_len, get_or-map-range_with_len}
use Rattle.std.proofs.lemmas.Slice.Eq.{bytes_eq-Decides}
use Rattle.std.proofs.lemmas.Bool.Decides.{Decides-below_or, Decides-like, Decides-and, Decides-not, Decides-eqb}
use Rattle.rows.specs.declared.rule.Kind.{Kind}
use Rattle.rows.specs.declared.rule.Kind.TheVariants.{Permitted, Forbidden}
use Rattle.rows.specs.declared.rule.RowsRule.{RowsRule}
use Rattle.rows.specs.Rows.{GoodRule, place_at, row_at, among, stores, permits_of, Permits}
use Rattle.rows.specs.Support.{row_in}

module _ (bytes : List ℕ) (rule : RowsRule) where
  -- a stored row by its places
  pub row_wide : (j : ℕ) → length (row_at bytes rule j) ≡ rule.width
  row_wide j = length-map-range_with_len (place_at bytes rule j) 0 rule.width

  pub row_place : (j k d : ℕ) → k < rule.width → get_or (row_at bytes rule j) k d ≡ place_at bytes rule j k
  row_place j k d h = get_or-map-range_with_len (place_at bytes rule j) 0 rule.width k k d h (omega arith)

  pub stores_decides : (row : List ℕ) → Decides (stores bytes rule row) ((j : ℕ) × (j < rule.count) × (row_at bytes rule j ≡ row))
  stores_decides row =
      Decides-below_or (λ j. bytes_eq (row_at bytes rule j) row) (λ j. row_at bytes rule j ≡ row) (among bytes rule row)
      (λ j. bytes_eq-Decides (row_at bytes rule j) row) refl (λ _. refl) rule.count

-- the rows of a rule that is fit, as they stand
module _ (bytes : List ℕ) (rule : RowsRule) (fit : GoodRule rule (length bytes)) where
  abbrev pub stored : List ℕ
  stored = take (rule.count * rule.width) (drop rule.start bytes)

  long : length stored ≡ rule.count * rule.width
  long = length-take-le (rule.count * rule.width) (drop rule.start bytes) (omega (arith, length-drop rule.start bytes, fit.inside))

  pub count_is : length stored / rule.width ≡ rule.count
  count_is = ap (λ (n : ℕ). n / rule.width) long ∙ mul-div_cancel rule.count fit.good.some

  pub row_is : (j : ℕ) → j < rule.count → row_in rule.width stored j ≡ row_at bytes rule j
  row_is j lt = ext_get_or 0 (row_in rule.width stored j) (row_at bytes rule j) (wide ∙ sym (row_wide bytes rule j)) each
    where
      room : j * rule.width + rule.width ≤ length stored
      room =
          let below : suc j * rule.width ≤ rule.count * rule.width = mul-le-mul_right rule.width (omega arith) in
          omega (arith, below, long, suc-mul j rule.width)

      wide : length (row_in rule.width stored j) ≡ rule.width
      wide = length-take-le rule.width (drop (j * rule.width) stored) (omega (arith, room, length-drop (j * rule.width) stored))

      each : (k : ℕ) → k < length (row_in rule.width stored j) → get_or (row_in rule.width stored j) k 0 ≡ get_or (row_at bytes rule j) k 0
      each k h =
          let in_row : k < rule.width = omega (arith, wide) in
          get_or-take rule.width (drop (j * rule.width) stored) k 0 in_row
          ∙ get_or-drop (j * rule.width) stored k 0
          ∙ get_or-take (rule.count * rule.width) (drop rule.start bytes) (j * rule.width + k) 0 (omega (arith, room, long))
          ∙ get_or-drop rule.start bytes (j * rule.width + k) 0
          ∙ ap (λ x. get_or bytes x 0) (omega arith)
          ∙ sym (row_place bytes rule j k 0 in_row)

-- the test tells what it stands for
pub permits_decides : (kind : Kind) (bytes : List ℕ) (rule : RowsRule) (row : List ℕ) → Decides (permits_of kind bytes rule row) (Permits kind bytes rule row)
permits_decides Permitted bytes rule row = stores_decides bytes rule row
permits_decides Forbidden bytes rule row =
    Decides-like (permits_of Forbidden bytes rule row)
    (λ p. (p.0, λ j h e. p.1 (j, h, e)))
    (λ p. (p.0, λ s. p.1 s.0 s.1 s.2))
    (Decides-and (eqb (length row) rule.width) (not (stores bytes rule row)) (Decides-eqb (length row) rule.width) (Decides-not (stores bytes rule row) (stores_decides bytes rule row)))
