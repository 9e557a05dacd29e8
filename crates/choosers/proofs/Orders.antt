-- Fewer places, and a smaller quotient of places by weighted degree, rank the open cells. Assumes nothing.
use Rattle.std.proofs.Common.{◌≡◌, ℕ, ◌*◌, ◌<◌, ◌≤◌, ap, ◌∙◌, inr, ⊎_elim, mul-le-mul_right, mul-pos, mul-zero, mul_right_comm, le-mul_of_pos_right, le_of_mul-le-mul_right, arith}
use Rattle.std.proofs.lemmas.Bool.{ltb-true, ltb-false, lt-ltb, le-ltb, cases_lt}
use Rattle.std.proofs.lemmas.Bool.Decides.{Decides-ltb}
use Rattle.choosers.specs.Kinds.{fewer, Fewer, lighter, Lighter}
use Rattle.choosers.proofs.Choosing.{Ranking}

pub fewer_ranks : Ranking fewer Fewer
fewer_ranks = record {
  tells = λ f g _ _. Decides-ltb f.places g.places;
  one_way = λ f g e. le-ltb g.places f.places (omega (arith, ltb-true f.places g.places e));
  chain = λ f g h _ p q. le-ltb f.places h.places (omega (arith, ltb-false f.places g.places p, ltb-false g.places h.places q));
}

-- a product is 0 where a factor is
none : (p d : ℕ) → d ≤ 0 → p * d ≡ 0
none p d h = ap (λ (x : ℕ). p * x) (omega arith) ∙ mul-zero p

-- cross products: p over d is not below q over e, which is not below r over f
cross : (p d q e r f : ℕ) → 1 < q → q * d ≤ p * e → r * e ≤ q * f → r * d ≤ p * f
cross p d q e r f some h k = ⊎_elim
    (λ (pos : 0 < e).
    let first : r * e * d ≤ q * f * d = mul-le-mul_right d k in
    let then : q * d * f ≤ p * e * f = mul-le-mul_right f h in
    le_of_mul-le-mul_right {k = e}
    (omega (arith, first, then, mul_right_comm r e d, mul_right_comm q f d, mul_right_comm p e f)) pos)
    (λ (no : e ≤ 0).
    let small : d ≤ d * q = le-mul_of_pos_right d (omega arith) in
    let low : d ≤ 0 = omega (arith, small, native.Mathlib.Nat.mul_comm d q, none p e no) in
    omega (arith, none r d low))
    (cases_lt 0 e)

pub lighter_ranks : Ranking lighter Lighter
lighter_ranks = record {
  tells = λ f g _ many. (
    (λ e.
        let less = ltb-true (f.places * g.degree) (g.places * f.degree) e in
        (⊎_elim (λ h. h) (λ no. absurd (omega (arith, less, none g.places f.degree no))) (cases_lt 0 f.degree), inr less)),
    (λ l. lt-ltb (f.places * g.degree) (g.places * f.degree) (⊎_elim
        (λ no. let pos : 0 < g.places * f.degree = mul-pos (omega arith) l.0 in omega (arith, none f.places g.degree (omega arith)))
        (λ less. less)
        l.1)),
  );
  one_way = λ f g e. le-ltb (g.places * f.degree) (f.places * g.degree) (omega (arith, ltb-true (f.places * g.degree) (g.places * f.degree) e));
  chain = λ f g h many p q.
      le-ltb (f.places * h.degree) (h.places * f.degree)
      (cross f.places f.degree g.places g.degree h.places h.degree many
      (ltb-false (f.places * g.degree) (g.places * f.degree) p) (ltb-false (g.places * h.degree) (h.places * g.degree) q));
}
