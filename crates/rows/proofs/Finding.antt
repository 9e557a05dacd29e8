-- What is found among the stored rows and among the others is support. Assumes nothing.
use Rattle.std.proofs.Common.{◌≡◌, ℕ, ◌<◌, ◌≤◌, ◌/◌, Bool, true, not, eqb, List, length, get_or, take, Decides, sym, refl, ap, ◌∙◌, subst, ⊎_elim, arith}
use Rattle.std.proofs.lemmas.List.{length-take-le}
use Rattle.std.proofs.lemmas.Bool.{and_parts, and_from, not-true, not_from_false, eq-eqb, cases_Bool, both_ways}
use Rattle.network.specs.Book.{Rule, Supported}
use Rattle.network.specs.Tries.{Allows, Tried}
use Rattle.network.proofs.Supports.{supported_row, row_tried}
use Rattle.rows.specs.declared.rule.Kind.{Kind}
use Rattle.rows.specs.declared.rule.Kind.TheVariants.{Permitted, Forbidden}
use Rattle.rows.specs.declared.rule.RowsRule.{RowsRule}
use Rattle.rows.specs.Rows.{GoodRule, row_at, stores, permits_of, rule_of}
use Rattle.rows.specs.RowsLaws.{width_of, cell_of}
use Rattle.rows.specs.Support.{row_in, Unstored}
use Rattle.rows.proofs.Rows.{stores_decides, stored, count_is, row_is}

module _ (bytes : List ℕ) (rule : RowsRule) where
  -- the rule as if it were of this kind
  abbrev of_kind : Kind → Rule
  of_kind kind = record { cells = (rule_of bytes rule).cells; permits = permits_of kind bytes rule }

module _ (bytes : List ℕ) (rule : RowsRule) (fit : GoodRule rule (length bytes)) (i v : ℕ) (within : i < rule.width)
    (sets masks : List ℕ) (four : length masks ≡ 4) (allows : Allows rule.cells i v sets masks) where
  wide : length (rule_of bytes rule).cells ≡ rule.width
  wide = width_of bytes rule

  abbrev allowed : List ℕ
  allowed = take rule.width masks

  first : (k : ℕ) → k < length (rule_of bytes rule).cells → get_or (rule_of bytes rule).cells k 255 ≡ get_or rule.cells k 0
  first k h = cell_of bytes rule k 255 (omega (arith, wide))

  few : length (rule_of bytes rule).cells ≤ 4
  few = omega (arith, wide, fit.good.few)

  -- a permitted row of allowed places is support, and support is one
  supports : (kind : Kind) (row : List ℕ) → Tried allowed row → permits_of kind bytes rule row ≡ true → Supported (of_kind bytes rule kind) i v sets
  supports kind row t = supported_row (of_kind bytes rule kind) rule.cells first few i v sets masks four allows (omega (arith, wide)) row (subst (λ n. Tried (take n masks) row) (sym wide) t)

  tried : (kind : Kind) (s : Supported (of_kind bytes rule kind) i v sets) → Tried allowed s.row
  tried kind s = subst (λ n. Tried (take n masks) s.row) wide (row_tried (of_kind bytes rule kind) rule.cells first few i v sets masks four allows s)

  allowed_wide : length allowed ≡ rule.width
  allowed_wide = length-take-le rule.width masks (omega (arith, four, fit.good.few))

  -- a row among the stored ones, as the search numbers them
  abbrev at : ℕ → List ℕ
  at = row_in (length allowed) (stored bytes rule fit)

  abbrev count : ℕ
  count = length (stored bytes rule fit) / length allowed

  count_same : count ≡ rule.count
  count_same = ap (λ (n : ℕ). length (stored bytes rule fit) / n) allowed_wide ∙ count_is bytes rule fit

  at_same : (j : ℕ) → j < rule.count → at j ≡ row_at bytes rule j
  at_same j h = ap (λ n. row_in n (stored bytes rule fit) j) allowed_wide ∙ row_is bytes rule fit j h

  stored_at : (row : List ℕ) → Decides (stores bytes rule row) ((j : ℕ) × (j < count) × (at j ≡ row))
  stored_at row =
      let d = stores_decides bytes rule row in (
        (λ e. let j = d.0 e in (j.0, omega (arith, j.1, count_same), at_same j.0 j.1 ∙ j.2)),
        (λ j. let low : j.0 < rule.count = omega (arith, j.1, count_same) in d.1 (j.0, low, sym (at_same j.0 low) ∙ j.2)),
      )

  permitted_decides : (t : Bool) → Decides t ((j : ℕ) × (j < count) × Tried allowed (at j)) → Decides t (Supported (of_kind bytes rule Permitted) i v sets)
  permitted_decides t d = (
    (λ e. let j = d.0 e in supports Permitted (at j.0) j.2 ((stored_at (at j.0)).1 (j.0, j.1, refl))),
    (λ s.
        let j = (stored_at s.row).0 s.permitted in
        d.1 (j.0, j.1, subst (Tried allowed) (sym j.2) (tried Permitted s))),
  )

  forbidden_decides : (t : Bool) → Decides t (Unstored count (stored bytes rule fit) allowed) → Decides t (Supported (of_kind bytes rule Forbidden) i v sets)
  forbidden_decides t d = (
    (λ e.
        let u = d.0 e in
        supports Forbidden u.row u.tried
        (and_from (eqb (length u.row) rule.width) (not (stores bytes rule u.row)) (eq-eqb (length u.row) rule.width (u.tried.0 ∙ allowed_wide))
        (not_from_false _ (⊎_elim (λ y. let j = (stored_at u.row).0 y in absurd (u.absent j.0 j.1 j.2)) (λ f. f) (cases_Bool (stores bytes rule u.row)))))),
    (λ s.
        let both = and_parts (eqb (length s.row) rule.width) (not (stores bytes rule s.row)) s.permitted in
        d.1 (record {
          row = s.row;
          tried = tried Forbidden s;
          absent = λ j h e. both_ways _ (not-true _ both.1) ((stored_at s.row).1 (j, h, e));
        })),
  )

  -- what the book finds, of a rule of its kind
  module _ (rows : List ℕ) (same : rows ≡ stored bytes rule fit) (t : Bool) where
    pub permitted_supported : rule.kind ≡ Permitted → Decides t ((j : ℕ) × (j < length rows / length allowed) × Tried allowed (row_in (length allowed) rows j)) → Decides t (Supported (rule_of bytes rule) i v sets)
    permitted_supported is d =
        subst (λ kind. Decides t (Supported (of_kind bytes rule kind) i v sets)) (sym is)
        (permitted_decides t (subst (λ rows. Decides t ((j : ℕ) × (j < length rows / length allowed) × Tried allowed (row_in (length allowed) rows j))) same d))

    pub forbidden_supported : rule.kind ≡ Forbidden → Decides t (Unstored (length rows / length allowed) rows allowed) → Decides t (Supported (rule_of bytes rule) i v sets)
    forbidden_supported is d =
        subst (λ kind. Decides t (Supported (of_kind bytes rule kind) i v sets)) (sym is)
        (forbidden_decides t (subst (λ rows. Decides t (Unstored (length rows / length allowed) rows allowed)) same d))
