-- The level after some bytes, and that a condition leaves it as it was. Assumes nothing.
use Rattle.std.proofs.Common.{◌≡◌, ℕ, suc, ◌+◌, ◌<◌, ◌≤◌, Bool, cond, eqb, List, [], ◌∷◌, ◌++◌, take, pos, negsuc, sym, refl, ap, ◌∙◌, arith, ne_eqb}
use Rattle.formulas.specs.declared.node.Shift.{Shift}
use Rattle.formulas.specs.declared.node.Shift.TheVariants.{Bare, Plus, Minus}
use Rattle.formulas.specs.declared.node.Side.{Side}
use Rattle.formulas.specs.declared.node.Side.TheVariants.{Number, Cell}
use Rattle.formulas.specs.declared.node.Relation.{Relation}
use Rattle.formulas.specs.declared.node.Relation.TheVariants.{Equal, NotEqual, Less, LessEqual, Greater, GreaterEqual}
use Rattle.formulas.specs.Tree.{Condition, compares, negates, all, any, Conditions, one, more, numeral, shift_text, side_text, relation_text, text, list_text, levels, list_levels}
use Rattle.formulas.specs.Faults.{count, level}
use Rattle.formulas.specs.Reading.{Spans, Deep}
use Rattle.formulas.proofs.Numerals.{AllDigits, digits_numeral}
use Rattle.formulas.proofs.Spans.{spans_take}

pub count_append : (b : ℕ) (s t : List ℕ) → count b (s ++ t) ≡ count b s + count b t
count_append b [] t = omega arith
count_append b (x ∷ s) t = let i = count_append b s t in omega arith

-- as many brackets opened as closed
abbrev pub Balanced : List ℕ → Type 0
Balanced w = count 40 w ≡ count 41 w

pub balanced_append : (v w : List ℕ) → Balanced v → Balanced w → Balanced (v ++ w)
balanced_append v w p q = omega (arith, count_append 40 v w, count_append 41 v w)

digits_none : (b : ℕ) (s : List ℕ) → b < 48 → AllDigits s → count b s ≡ 0
digits_none b [] h a = refl
digits_none b (x ∷ s) h a =
    let i = digits_none b s h a.1 in
    let f : ◌≡◌ {A = ℕ} (cond (eqb x b) 1 0) 0 = ap (λ (t : Bool). cond {A = ℕ} t 1 0) (ne_eqb x b (λ e. omega (arith, a.0.0))) in
    omega arith

balanced_numeral : (n : ℕ) → Balanced (numeral n)
balanced_numeral n = digits_none 40 (numeral n) (omega arith) (digits_numeral n) ∙ sym (digits_none 41 (numeral n) (omega arith) (digits_numeral n))

balanced_shift : (h : Shift) → Balanced (shift_text h)
balanced_shift Bare = refl
balanced_shift (Plus n) = let i = balanced_numeral n in omega arith
balanced_shift (Minus n) = let i = balanced_numeral n in omega arith

pub balanced_side : (a : Side) → Balanced (side_text a)
balanced_side (Number (pos n)) = balanced_numeral n
balanced_side (Number (negsuc n)) = let i = balanced_numeral (suc n) in omega arith
balanced_side (Cell c h) = let i = balanced_append (numeral c) (shift_text h) (balanced_numeral c) (balanced_shift h) in omega arith

pub balanced_relation : (o : Relation) → Balanced (relation_text o)
balanced_relation Equal = refl
balanced_relation NotEqual = refl
balanced_relation Less = refl
balanced_relation LessEqual = refl
balanced_relation Greater = refl
balanced_relation GreaterEqual = refl

mutual
  pub balanced : (c : Condition) → Balanced (text c)
  balanced (compares a o b) = balanced_append (side_text a) (relation_text o ++ side_text b) (balanced_side a) (balanced_append (relation_text o) (side_text b) (balanced_relation o) (balanced_side b))
  balanced (negates c) = let i = balanced c in omega (arith, count_append 40 (text c) (41 ∷ []), count_append 41 (text c) (41 ∷ []))
  balanced (all cs) = let i = balanced_list cs in omega (arith, count_append 40 (list_text cs) (41 ∷ []), count_append 41 (list_text cs) (41 ∷ []))
  balanced (any cs) = let i = balanced_list cs in omega (arith, count_append 40 (list_text cs) (41 ∷ []), count_append 41 (list_text cs) (41 ∷ []))

  pub balanced_list : (cs : Conditions) → Balanced (list_text cs)
  balanced_list (one c) = balanced c
  balanced_list (more c cs) = let i = balanced c in let j = balanced_list cs in omega (arith, count_append 40 (text c) (44 ∷ list_text cs), count_append 41 (text c) (44 ∷ list_text cs))

pub deep_start : (s : List ℕ) → Deep s 0 1
deep_start s = record { deep = refl }

pub deep_flat : {s w : List ℕ} {at end l : ℕ} → Spans s at w end → Balanced w → Deep s at l → Deep s end l
deep_flat {s} {w} {at} {end} p b d =
    record { deep = omega (arith, ap (count 40) (spans_take p), ap (count 41) (spans_take p), count_append 40 (take at s) w, count_append 41 (take at s) w, d.deep) }

pub deep_open : {s w : List ℕ} {at end l : ℕ} → Spans s at w end → count 40 w ≡ count 41 w + 1 → Deep s at l → Deep s end (l + 1)
deep_open {s} {w} {at} {end} p b d =
    record { deep = omega (arith, ap (count 40) (spans_take p), ap (count 41) (spans_take p), count_append 40 (take at s) w, count_append 41 (take at s) w, d.deep) }

pub deep_level : {s : List ℕ} {at l : ℕ} → Deep s at l → level (take at s) ≡ l
deep_level d = omega (arith, d.deep)

pub levels_some : (c : Condition) → 1 ≤ levels c
levels_some (compares a o b) = omega arith
levels_some (negates c) = omega arith
levels_some (all cs) = omega arith
levels_some (any cs) = omega arith

pub list_levels_some : (cs : Conditions) → 1 ≤ list_levels cs
list_levels_some (one c) = levels_some c
list_levels_some (more c cs) = let i = levels_some c in omega arith
