-- A file is read as one sheet, or refused with one fault, and not both. Assumes nothing.
use Rattle.std.proofs.Common.{◌≡◌, ℕ, ◌+◌, ◌≤◌, List, [], ◌∷◌, ◌++◌, map, length, ℤ, sym, refl, ap, ◌∙◌, subst, ⊎_elim, append_assoc, append-nil, arith, length-append}
use Rattle.std.specs.List.{flat_map, AllByRecursion}
use Rattle.formulas.specs.Tree.{Condition}
use Rattle.formulas.proofs.Firsts.{text_unique}
use Rattle.sheets.specs.declared.fault.LoadFault.{LoadFault}
use Rattle.sheets.specs.Sheet.{Sheet, RowsField, Field, field_bytes, cell_field, rows_field, formula_field, fields_of, bytes_of, GoodList, GoodRows, GoodFormula, Good, empty, with_list, with_rows, with_formula}
use Rattle.sheets.specs.Reading.{ReadAs, RefusedWith}
use Rattle.sheets.proofs.Fields.{byte, fields_split}
use Rattle.sheets.proofs.Adds.{Adds, adds_list, adds_rows, adds_formula, adds_not_end}
use Rattle.sheets.proofs.Contents.{lists_unique, rows_unique}
use Rattle.sheets.proofs.Wrongs.{good_not_wrong, end_not_wrong}

-- good fields one after another
pub data From : Sheet → List Field → Sheet → Type 0 where
  none : {s : Sheet} → From s [] s
  more : {s t u : Sheet} {f : Field} {fs : List Field} → Adds s f t → From t fs u → From s (f ∷ fs) u

from_append : {s t u : Sheet} {fs gs : List Field} → From s fs t → From t gs u → From s (fs ++ gs) u
from_append none g = g
from_append (more a f) g = more a (from_append f g)

-- the same after the first fields
from_split : (fs : List Field) {gs : List Field} {s u : Sheet} → From s (fs ++ gs) u → (t : Sheet) × From s fs t × From t gs u
from_split [] {s = s} g = (s, none, g)
from_split (f ∷ fs) (more a g) = let k = from_split fs g in (k.0, more a k.1, k.2)

-- a field adds one thing
adds_unique : {s t u : Sheet} {f g : Field} → f ≡ g → Adds s f t → Adds s g u → t ≡ u
adds_unique {s} e (adds_list ys p q few g) (adds_list zs p' q' few' h) = ap (with_list s) (lists_unique ys zs g.small h.small (ap (λ (f : Field). f.content) e))
adds_unique e (adds_list ys p q few g) (adds_rows x q' few' h) = absurd (omega (arith, ap (λ (f : Field). f.tag) e))
adds_unique e (adds_list ys p q few g) (adds_formula c few' h) = absurd (omega (arith, ap (λ (f : Field). f.tag) e))
adds_unique e (adds_rows x q few g) (adds_list zs p' q' few' h) = absurd (omega (arith, ap (λ (f : Field). f.tag) e))
adds_unique {s} e (adds_rows x q few g) (adds_rows y q' few' h) = ap (with_rows s) (rows_unique s.lists x y g h (ap (λ (f : Field). f.content) e))
adds_unique e (adds_rows x q few g) (adds_formula c few' h) = absurd (omega (arith, ap (λ (f : Field). f.tag) e))
adds_unique e (adds_formula c few g) (adds_list zs p' q' few' h) = absurd (omega (arith, ap (λ (f : Field). f.tag) e))
adds_unique e (adds_formula c few g) (adds_rows y q' few' h) = absurd (omega (arith, ap (λ (f : Field). f.tag) e))
adds_unique {s} e (adds_formula c few g) (adds_formula d few' h) = ap (with_formula s) (text_unique c d (ap (λ (f : Field). f.content) e))

from_unique : (fs : List Field) {s t u : Sheet} → From s fs t → From s fs u → t ≡ u
from_unique [] none none = refl
from_unique (f ∷ fs) {u = u} (more a g) (more b h) = from_unique fs g (subst (λ x. From x fs u) (sym (adds_unique refl a b)) h)

-- a good sheet is made so
from_lists : (a b : List (List ℤ)) → length a + length b ≤ 64 → AllByRecursion GoodList b → From (record { lists = a; rows = []; formulas = [] }) (map cell_field b) (record { lists = a ++ b; rows = []; formulas = [] })
from_lists a [] h g = subst (λ l. From (record { lists = a; rows = []; formulas = [] }) [] (record { lists = l; rows = []; formulas = [] })) (sym (append-nil a)) none
from_lists a (z ∷ b) h g =
    more (adds_list z refl refl (omega arith) g.0)
    (subst (λ l. From (record { lists = a ++ (z ∷ []); rows = []; formulas = [] }) (map cell_field b) (record { lists = l; rows = []; formulas = [] })) (append_assoc a (z ∷ []) b)
    (from_lists (a ++ (z ∷ [])) b (omega (arith, length-append a (z ∷ []))) g.1))

from_rows : (ls : List (List ℤ)) (a b : List RowsField) → length a + length b ≤ 64 → AllByRecursion (GoodRows ls) b → From (record { lists = ls; rows = a; formulas = [] }) (map rows_field b) (record { lists = ls; rows = a ++ b; formulas = [] })
from_rows ls a [] h g = subst (λ l. From (record { lists = ls; rows = a; formulas = [] }) [] (record { lists = ls; rows = l; formulas = [] })) (sym (append-nil a)) none
from_rows ls a (x ∷ b) h g =
    more (adds_rows x refl (omega arith) g.0)
    (subst (λ l. From (record { lists = ls; rows = a ++ (x ∷ []); formulas = [] }) (map rows_field b) (record { lists = ls; rows = l; formulas = [] })) (append_assoc a (x ∷ []) b)
    (from_rows ls (a ++ (x ∷ [])) b (omega (arith, length-append a (x ∷ []))) g.1))

from_formulas : (ls : List (List ℤ)) (rs : List RowsField) (a b : List Condition) → length rs + (length a + length b) ≤ 64 → AllByRecursion (GoodFormula ls) b → From (record { lists = ls; rows = rs; formulas = a }) (map formula_field b) (record { lists = ls; rows = rs; formulas = a ++ b })
from_formulas ls rs a [] h g = subst (λ l. From (record { lists = ls; rows = rs; formulas = a }) [] (record { lists = ls; rows = rs; formulas = l })) (sym (append-nil a)) none
from_formulas ls rs a (c ∷ b) h g =
    more (adds_formula c (omega arith) g.0)
    (subst (λ l. From (record { lists = ls; rows = rs; formulas = a ++ (c ∷ []) }) (map formula_field b) (record { lists = ls; rows = rs; formulas = l })) (append_assoc a (c ∷ []) b)
    (from_formulas ls rs (a ++ (c ∷ [])) b (omega (arith, length-append a (c ∷ []))) g.1))

pub good_from : (s : Sheet) → Good s → From empty (fields_of s) s
good_from s g =
    from_append (from_lists [] s.lists (omega (arith, g.few_cells)) g.lists)
    (from_append (from_rows s.lists [] s.rows (omega (arith, g.few_rules)) g.rows) (from_formulas s.lists s.rows [] s.formulas (omega (arith, g.few_rules)) g.formulas))

-- after the fields of a good sheet, the next one of a longer good sheet is good
next_good : (s t : Sheet) (h : Field) (hs : List Field) → Good s → Good t → fields_of t ≡ fields_of s ++ (h ∷ hs) → (u : Sheet) × Adds s h u
next_good s t h hs g k e =
    let w = from_split (fields_of s) (subst (λ fs. From empty fs t) e (good_from t k)) in
    let same : w.0 ≡ s = from_unique (fields_of s) w.1 (good_from s g) in
    first (subst (λ x. From x (h ∷ hs) t) same w.2)
  where
    first : From s (h ∷ hs) t → (u : Sheet) × Adds s h u
    first (more {t = u} a r) = (u, a)

pub fields_same : (s t : Sheet) → Good s → Good t → fields_of s ≡ fields_of t → s ≡ t
fields_same s t g h e = from_unique (fields_of s) (good_from s g) (subst (λ fs. From empty fs t) (sym e) (good_from t h))

-- the bytes of two good sheets, and what comes after each
module _ (s t : Sheet) (g : Good s) (h : Good t) (p q : List ℕ) (e : bytes_of s ++ p ≡ bytes_of t ++ q) where
  -- the same sheet, or one goes on with a good field
  pub data Compared : Type 0 where
    same : s ≡ t → p ≡ q → Compared
    first_longer : (u : Sheet) (f : Field) (r : List ℕ) → Adds t f u → q ≡ field_bytes f ++ r → Compared
    second_longer : (u : Sheet) (f : Field) (r : List ℕ) → Adds s f u → p ≡ field_bytes f ++ r → Compared

  pub compared : Compared
  compared = ⊎_elim (λ k. left k.0 k.1 k.2) (λ k. right k.0 k.1 k.2) (fields_split (fields_of s) (fields_of t) p q e)
    where
      left : (hs : List Field) → fields_of s ≡ fields_of t ++ hs → q ≡ flat_map field_bytes hs ++ p → Compared
      left [] i j = same (fields_same s t g h (i ∙ append-nil (fields_of t))) (sym j)
      left (f ∷ hs) i j = let n = next_good t s f hs h g i in first_longer n.0 f (flat_map field_bytes hs ++ p) n.1 (j ∙ append_assoc (field_bytes f) (flat_map field_bytes hs) p)

      right : (hs : List Field) → fields_of t ≡ fields_of s ++ hs → p ≡ flat_map field_bytes hs ++ q → Compared
      right [] i j = same (fields_same s t g h (sym (append-nil (fields_of s)) ∙ sym i)) j
      right (f ∷ hs) i j = let n = next_good s t f hs g h i in second_longer n.0 f (flat_map field_bytes hs ++ q) n.1 (j ∙ append_assoc (field_bytes f) (flat_map field_bytes hs) q)

end_alone : {s u : Sheet} {f : Field} (r : List ℕ) → Adds s f u → 4 ∷ 0 ∷ 0 ∷ [] ≡ field_bytes f ++ r → ⊥
end_alone r a e = adds_not_end a (sym (byte _ _ _ _ e).0)

pub read_unique : (file : List ℕ) (s t : Sheet) → ReadAs file s → ReadAs file t → s ≡ t
read_unique file s t a b = go (compared s t a.good b.good _ _ (sym a.said ∙ b.said))
  where
    go : Compared s t a.good b.good _ _ (sym a.said ∙ b.said) → s ≡ t
    go (same e _) = e
    go (first_longer u f r x e) = absurd (end_alone r x e)
    go (second_longer u f r x e) = absurd (end_alone r x e)

pub read_not_refused : (file : List ℕ) (s : Sheet) (e : LoadFault) → ReadAs file s → RefusedWith file e → ⊥
read_not_refused file s e a b = go (compared s b.before a.good b.good _ _ (sym a.said ∙ b.said))
  where
    go : Compared s b.before a.good b.good _ _ (sym a.said ∙ b.said) → ⊥
    go (same _ i) = end_not_wrong (sym i) b.wrong
    go (first_longer u f r x i) = good_not_wrong b.good.few_cells x r i b.wrong
    go (second_longer u f r x i) = end_alone r x i
