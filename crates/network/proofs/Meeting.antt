-- What turning and joining books does to the fillings that meet them. Assumes nothing.
use Rattle.std.proofs.Common.{◌≡◌, ℕ, ◌+◌, ◌-◌, ◌<◌, ◌≤◌, Bool, ltb, ◌↔◌, List, [], ◌∷◌, map, reverse, get_or, sym, refl, ap, ◌∙◌, subst, ⊎_elim, arith}
use mathlib.Core.List.{reverse_aux}
use Rattle.std.proofs.lemmas.List.{reverse-reverse}
use Rattle.std.proofs.lemmas.Bool.{cond_both, cond-true, cond-false, lt-ltb, le-ltb, cases_lt}
use Rattle.network.specs.Book.{Rule, BookMeaning, joined, turned, reversed, no_rule}
use Rattle.network.specs.Fillings.{row_of, Meets}
use Rattle.network.specs.Made.{MeetsBook, MeetsFirst, SameMet, SameMeetable}

map_onto : (g : ℕ → ℕ) (xs ys : List ℕ) → map g (reverse_aux xs ys) ≡ reverse_aux (map g xs) (map g ys)
map_onto g [] ys = refl
map_onto g (x ∷ xs) ys = map_onto g xs (x ∷ ys)

-- the row that a filling gives to a reversed rule, reversed, is the row that it gives to the rule
row_reversed : (rule : Rule) (f : List ℕ) → reverse (row_of (reversed rule) f) ≡ row_of rule f
row_reversed rule f = ap reverse (map_onto (λ c. get_or f c 0) rule.cells []) ∙ reverse-reverse (row_of rule f)

pub turned_meets : (flag : ℕ → Bool) (m : BookMeaning) (k : ℕ) (f : List ℕ) → Meets ((turned flag m).rule k) f ↔ Meets (m.rule k) f
turned_meets flag m k f = cond_both (flag k) (reversed (m.rule k)) (m.rule k) (λ rule. Meets rule f ↔ Meets (m.rule k) f)
    (λ _. ((λ h. sym (ap (m.rule k).permits (row_reversed (m.rule k) f)) ∙ h), (λ h. ap (m.rule k).permits (row_reversed (m.rule k) f) ∙ h)))
    (λ _. ((λ h. h), (λ h. h)))

-- books whose rules are met by the same fillings
pub meetable_same : (m b : BookMeaning) → SameMet m b → SameMeetable m b
meetable_same m b same sets rules = (
  (λ p. record { filling = p.filling; inside = p.inside; meets = λ r h. (same r p.filling).0 (p.meets r h) }),
  (λ p. record { filling = p.filling; inside = p.inside; meets = λ r h. (same r p.filling).1 (p.meets r h) }),
)

module _ (m n : BookMeaning) (bounded : m.count ≤ 65535) where
  -- the joined book's rules
  pub joined_first : (r : ℕ) → r < m.count → (joined m n).rule r ≡ m.rule r
  joined_first r h = cond-true (ltb r m.count) (m.rule r) _ (lt-ltb r m.count h)

  pub joined_second : (r : ℕ) → r < 65535 - m.count → (joined m n).rule (m.count + r) ≡ n.rule r
  joined_second r h =
      cond-false (ltb (m.count + r) m.count) _ _ (le-ltb (m.count + r) m.count (omega arith))
      ∙ cond-true (ltb (m.count + r) 65535) _ no_rule (lt-ltb (m.count + r) 65535 (omega arith))
      ∙ ap n.rule (omega arith)

  pub joined_meets : (f : List ℕ) → MeetsBook (joined m n) f ↔ MeetsBook m f × MeetsFirst (65535 - m.count) n f
  joined_meets f = (
    (λ h. (
      (λ r lt. subst (λ rule. Meets rule f) (joined_first r lt) (h r (omega arith))),
      (λ r few lt. subst (λ rule. Meets rule f) (joined_second r few) (h (m.count + r) (omega arith))),
    )),
    (λ h r lt. ⊎_elim
        (λ low. subst (λ rule. Meets rule f) (sym (joined_first r low)) (h.0 r low))
        (λ high.
        let at : m.count + (r - m.count) ≡ r = omega arith in
        subst (λ k. Meets ((joined m n).rule k) f) at
        (subst (λ rule. Meets rule f) (sym (joined_second (r - m.count) (omega arith))) (h.1 (r - m.count) (omega arith) (omega arith))))
        (cases_lt r m.count)),
  )

  -- where all rules are counted
  pub joined_whole : m.count + n.count ≤ 65535 → (f : List ℕ) → MeetsBook (joined m n) f ↔ MeetsBook m f × MeetsBook n f
  joined_whole fits f = (
    (λ h. let both = (joined_meets f).0 h in (both.0, λ r lt. both.1 r (omega arith) lt)),
    (λ h. (joined_meets f).1 (h.0, λ r _ lt. h.1 r lt)),
  )
