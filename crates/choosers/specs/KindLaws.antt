-- Proofs that each kind of chooser keeps the law of choosers. Assumes nothing.
-- They stand in specs/ since the laws of a type may cite nothing else of its own crate. The check proves them, so no reader has to believe them.
use Rattle.std.specs.Prelude.{◌≡◌, ℕ, zero, suc, ◌<◌, Bool, true, false, ◌&&◌, ◌||◌, ◌⊎◌, List, length, Some, None, Option, ◌==◌, nat_lt, refl}
use Rattle.std.proofs.Common.{ap, subst, inl, inr, ⊎_elim, arith}
use Rattle.std.proofs.lemmas.List.{get_or_past}
use Rattle.std.proofs.lemmas.Bool.{cond_both, ltb-true, lt-ltb, eqb-false, and_parts, and_from, and_cases, or_parts, both_ways, cases_lt}
use Rattle.choosers.specs.declared.chooser.Figure.{Figure}
use Rattle.choosers.specs.Choice.{Named, Open, open?, figure, no_figure}
use Rattle.choosers.specs.Kinds.{pick, held_or}

-- a cell that passes the test is open
pub open_true : (fs : List Figure) (c : ℕ) → open? fs c ≡ true → Open fs c
open_true fs c e =
    let both = and_parts (nat_lt c 64) (nat_lt 1 (figure fs c).places) e in
    (ltb-true c 64 both.0, ltb-true 1 (figure fs c).places both.1)

-- one that does not is not
pub open_false : (fs : List Figure) (c : ℕ) → open? fs c ≡ false → Open fs c → ⊥
open_false fs c e o = both_ways _ e (and_from (nat_lt c 64) (nat_lt 1 (figure fs c).places) (lt-ltb c 64 o.0) (lt-ltb 1 (figure fs c).places o.1))

-- an open cell is in the list
pub open_below : (fs : List Figure) (c : ℕ) → Open fs c → c < length fs
open_below fs c o =
    ⊎_elim (λ h. h) (λ h. absurd (omega (arith, o.1, ap (λ (f : Figure). f.places) (get_or_past fs c no_figure h)))) (cases_lt c (length fs))

-- b is open, or it is 255 and none of the first n cells is open
abbrev Found : List Figure → ℕ → ℕ → Type 0
Found fs n b = Open fs b ⊎ ((b ≡ 255) × ((k : ℕ) → k < n → Open fs k → ⊥))

-- what is picked of the first n cells is so
found : (beats : Figure → Figure → Bool) (fs : List Figure) (n : ℕ) → Found fs n (pick beats fs n)
found beats fs zero = inr (refl, λ k lt _. omega arith)
found beats fs (suc n) =
    let b = pick beats fs n in
    cond_both (open? fs n && (b == 255 || beats (figure fs n) (figure fs b))) n b (Found fs (suc n))
    (λ t. inl (open_true fs n (and_parts (open? fs n) _ t).0))
    (λ t. ⊎_elim
    inl
    (λ q. inr (
      q.0,
      λ k lt o. ⊎_elim
          (λ below. q.1 k below o)
          (λ ge.
          let e : k ≡ n = omega arith in
          ⊎_elim
          (λ shut. open_false fs n shut (subst (Open fs) e o))
          (λ f. eqb-false b 255 (or_parts (b == 255) _ f).0 q.0)
          (and_cases (open? fs n) _ t))
          (cases_lt k n),
    ))
    (found beats fs n))

-- of all cells an open one is picked, or 255 if none is
pub pick_named : (beats : Figure → Figure → Bool) (fs : List Figure) → Named fs (pick beats fs (length fs))
pick_named beats fs = ⊎_elim inl (λ q. inr (q.0, λ k o. q.1 k (open_below fs k o) o)) (found beats fs (length fs))

-- and so it is where an open cell is held
pub held_or_named : (h : Option ℕ) (fs : List Figure) (n : ℕ) → Named fs n → Named fs (held_or h fs n)
held_or_named None fs n p = p
held_or_named (Some c) fs n p = cond_both (open? fs c) c n (Named fs) (λ e. inl (open_true fs c e)) (λ _. p)
