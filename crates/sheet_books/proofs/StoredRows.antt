-- The rules by rows of a sheet, as they lie in the stores. Assumes nothing.
use Rattle.std.proofs.Common.{◌≡◌, ℕ, zero, suc, ◌+◌, ◌*◌, ◌<◌, ◌≤◌, true, not, ◌&&◌, ◌||◌, eqb, List, [], ◌∷◌, ◌++◌, length, get_or, drop, ℤ, Decides, sym, refl, ap, ◌∙◌, subst, ⊎_elim, append_assoc, arith, length-append}
use Rattle.std.specs.List.{flat_map, AllByRecursion}
use Rattle.std.specs.Str.{bytes_eq}
use Rattle.std.proofs.lemmas.List.FromFn.{fill_by_all}
use Rattle.std.proofs.lemmas.Slice.Eq.{bytes_eq-Decides}
use Rattle.std.proofs.lemmas.List.{get_or-drop, get_or-take}
use Rattle.std.proofs.lemmas.Bool.{or_cases, or_left, or_right, false≢true}
use Rattle.std.proofs.lemmas.Bool.Decides.{same_from_decides, Decides-like}
use Rattle.bits.proofs.Lists.{each_at}
use Rattle.rows.specs.declared.rule.Kind.{Kind}
use Rattle.rows.specs.declared.rule.Kind.TheVariants.{Permitted, Forbidden}
use Rattle.rows.specs.declared.rule.RowsRule.{RowsRule}
use Rattle.rows.specs.Rows.{no_rows, GoodRule, WellFormed, place_at, row_at, stores, permits_of, rule_of}
use Rattle.rows.proofs.Rows.{stores_decides}
use Rattle.sheets.specs.Sheet.{RowsField, GoodRows}
use Rattle.sheets.specs.Stored.{places_of, stored_rule_of, rules_of}
use Rattle.sheets.specs.Meaning.{one_of, permits_row, rows_rule, no_rows as no_field}
use Rattle.sheets.proofs.Storing.{length_rules}
use Rattle.sheets.proofs.Wide.{Wide, run, run_length, row_part}
use Rattle.sheet_books.proofs.Parts.{cells_there, cells_good}

-- p stands before the rows, and m is its length
place_there : (w : ℕ) (rs : List (List ℕ)) (m : ℕ) (p q bytes : List ℕ) → Wide w rs → length p ≡ m → bytes ≡ p ++ (run rs ++ q)
    → (j k : ℕ) → j < length rs → k < w → get_or bytes (m + j * w + k) 0 ≡ get_or (get_or rs j []) k 0
place_there w rs m p q bytes h l e j k a b =
    sym (get_or-drop (m + j * w) bytes k 0) ∙ sym (get_or-take w (drop (m + j * w) bytes) k 0 b) ∙ ap (λ r. get_or r k 0) (row_part w rs m p q bytes h l e j a)

one_of_decides : (row : List ℕ) (rs : List (List ℕ)) → Decides (one_of row rs) ((j : ℕ) × (j < length rs) × (get_or rs j [] ≡ row))
one_of_decides row [] = ((λ f. absurd (false≢true f)), (λ a. absurd (omega (arith, a.1))))
one_of_decides row (r ∷ rs) =
    let i = one_of_decides row rs in (
      (λ t. ⊎_elim
          (λ a. (0, omega arith, (bytes_eq-Decides r row).0 a))
          (λ b. let k = i.0 b in (suc k.0, omega (arith, k.1), k.2))
          (or_cases (bytes_eq r row) (one_of row rs) t)),
      (λ a. found i.1 a.0 a.1 a.2),
    )
  where
    found : ((j : ℕ) × (j < length rs) × (get_or rs j [] ≡ row) → one_of row rs ≡ true)
        → (j : ℕ) → j < length (r ∷ rs) → get_or (r ∷ rs) j [] ≡ row → (bytes_eq r row || one_of row rs) ≡ true
    found later zero h e = or_left (bytes_eq r row) (one_of row rs) ((bytes_eq-Decides r row).1 e)
    found later (suc j) h e = or_right (bytes_eq r row) (one_of row rs) (later (j, omega arith, e))

-- ---- one rule, whose places stand from m on
module _ (x : RowsField) (m : ℕ) (p q bytes : List ℕ) (l : length p ≡ m) (e : bytes ≡ p ++ (places_of x ++ q)) (wide : Wide (length x.cells) x.rows) where
  row_there : (j : ℕ) → j < length x.rows → row_at bytes (stored_rule_of m x) j ≡ get_or x.rows j []
  row_there j h =
      sym (fill_by_all (place_at bytes (stored_rule_of m x) j) (get_or x.rows j []) (length x.cells) 0 (wide j h)
      (λ k b. sym (place_there (length x.cells) x.rows m p q bytes wide l e j k h b)))

  stores_same : (row : List ℕ) → stores bytes (stored_rule_of m x) row ≡ one_of row x.rows
  stores_same row =
      same_from_decides (stores bytes (stored_rule_of m x) row) (one_of row x.rows) (stores_decides bytes (stored_rule_of m x) row)
      (Decides-like (one_of row x.rows)
      (λ a. (a.0, a.1, row_there a.0 a.1 ∙ a.2))
      (λ a. (a.0, a.1, sym (row_there a.0 a.1) ∙ a.2))
      (one_of_decides row x.rows))

  by_kind : (kind : Kind) (row : List ℕ) → permits_of kind bytes (stored_rule_of m x) row ≡ permits_row kind (length x.cells) x.rows row
  by_kind Permitted row = stores_same row
  by_kind Forbidden row = ap (λ b. eqb (length row) (length x.cells) && not b) (stores_same row)

  inside : m + length x.rows * length x.cells ≤ length bytes
  inside = omega (arith, ap length e, length-append p (places_of x ++ q), length-append (places_of x) q, run_length (length x.cells) x.rows wide)

-- ---- the rules in the stores
record RuleThere (rules : List RowsRule) (bytes : List ℕ) (x : RowsField) (r : ℕ) : Type 0 where
  pub start : ℕ
  pub before : List ℕ
  pub after : List ℕ
  pub is : get_or rules r no_rows ≡ stored_rule_of start x
  pub long : length before ≡ start
  pub said : bytes ≡ before ++ (places_of x ++ after)

rule_there : (xs : List RowsField) (n : ℕ) (p q bytes : List ℕ) → length p ≡ n → bytes ≡ p ++ (flat_map places_of xs ++ q)
    → (r : ℕ) → r < length xs → RuleThere (rules_of n xs) bytes (get_or xs r no_field) r
rule_there [] n p q bytes l e r h = absurd (omega arith)
rule_there (x ∷ xs) n p q bytes l e zero h = record {
  start = n;
  before = p;
  after = flat_map places_of xs ++ q;
  is = refl;
  long = l;
  said = e ∙ ap (λ y. p ++ y) (append_assoc (places_of x) (flat_map places_of xs) q);
}
rule_there (x ∷ xs) n p q bytes l e (suc r) h =
    let i = rule_there xs (n + length (places_of x)) (p ++ places_of x) q bytes (length-append p (places_of x) ∙ omega arith)
    (e ∙ ap (λ y. p ++ y) (append_assoc (places_of x) (flat_map places_of xs) q) ∙ sym (append_assoc p (places_of x) (flat_map places_of xs ++ q))) r (omega arith) in
    record { start = i.start; before = i.before; after = i.after; is = i.is; long = i.long; said = i.said }

module _ (lists : List (List ℤ)) (xs : List RowsField) (q : List ℕ) (few : length lists ≤ 64) (good : AllByRecursion (GoodRows lists) xs) where
  abbrev bytes : List ℕ
  bytes = flat_map places_of xs ++ q

  there : (r : ℕ) → r < length xs → RuleThere (rules_of 0 xs) bytes (get_or xs r no_field) r
  there r h = rule_there xs 0 [] q bytes refl refl r h

  good_at : (r : ℕ) → r < length xs → GoodRows lists (get_or xs r no_field)
  good_at r h = each_at (GoodRows lists) xs no_field good r h

  pub rows_well_formed : length xs ≤ 64 → WellFormed (rules_of 0 xs) bytes
  rows_well_formed short = record {
    few = omega (arith, length_rules 0 xs);
    each = λ r h.
        let h' : r < length xs = omega (arith, length_rules 0 xs) in
        let t = there r h' in
        let g = good_at r h' in
        let x = get_or xs r no_field in
        subst (λ y. GoodRule y (length bytes)) (sym t.is) (record {
          good = cells_good x.cells (length lists) few g.some g.few g.known g.apart;
          inside = inside x t.start t.before t.after bytes t.long t.said (λ i k. (g.rows i k).wide);
        });
  }

  module _ (r : ℕ) (h : r < length xs) where
    pub rows_cells : (rule_of bytes (get_or (rules_of 0 xs) r no_rows)).cells ≡ (rows_rule (get_or xs r no_field)).cells
    rows_cells = ap (λ y. (rule_of bytes y).cells) (there r h).is ∙ cells_there (get_or xs r no_field).cells

    pub rows_permits : (row : List ℕ) → (rule_of bytes (get_or (rules_of 0 xs) r no_rows)).permits row ≡ (rows_rule (get_or xs r no_field)).permits row
    rows_permits row =
        let t = there r h in
        let x = get_or xs r no_field in
        ap (λ y. (rule_of bytes y).permits row) t.is ∙ by_kind x t.start t.before t.after bytes t.long t.said (λ i k. ((good_at r h).rows i k).wide) x.kind row
