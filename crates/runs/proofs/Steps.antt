-- The sets without one place, and one place alone. Assumes nothing.
use Rattle.std.proofs.Common.{◌≡◌, ℕ, zero, suc, ◌+◌, ◌-◌, ◌^◌, ◌<◌, ◌≢◌, List, [], ◌∷◌, length, get_or, set, sym, ap, ◌∙◌, subst, subst₂, inl, inr, arith, length-set, pow_pos}
use Rattle.std.specs.Prelude.{sum}
use Rattle.std.proofs.lemmas.List.Sums.{sum_by-cons}
use Rattle.std.proofs.lemmas.List.{get_or-set_same, get_or-set_other}
use Rattle.std.proofs.lemmas.Bool.{cases_eq}
use Rattle.bits.specs.Sets.{In}
use Rattle.bits.proofs.Bits.{has_le, out_same, out_other, pow_same, pow_other}
use Rattle.network.specs.Book.{Remains}
use Rattle.network.specs.Fillings.{Inside}
use Rattle.runs.specs.Settle.{left_at, out_of, Empty}
use Rattle.runs.specs.Law.{Within, Full}

-- the masks added up
pub total_set : (s : List ℕ) (c x : ℕ) → c < length s → sum (set s c x) + get_or s c 0 ≡ sum s + x
total_set [] c x h = absurd (omega arith)
total_set (a ∷ s) zero x h = omega (arith, sum_by-cons (λ n. n) a s, sum_by-cons (λ n. n) x s)
total_set (a ∷ s) (suc c) x h =
    let ih = total_set s c x (omega arith) in omega (arith, ih, sum_by-cons (λ n. n) a s, sum_by-cons (λ n. n) a (set s c x))

pub out_total : (s : List ℕ) (c v : ℕ) → c < length s → In (get_or s c 0) v → sum (out_of s c v) < sum s
out_total s c v h k = omega (arith, total_set s c (get_or s c 0 - 2 ^ v) h, has_le (get_or s c 0) v k, pow_pos v)

-- a cell that is written, and the others
module _ (sets : List ℕ) (c x : ℕ) (l : c < length sets) where
  pub at_written : (d v : ℕ) → d ≡ c → Remains (set sets c x) d v → (v < 64) × In x v
  at_written d v e h = (h.0, subst (λ (y : ℕ). In y v) (ap (λ (z : ℕ). get_or (set sets c x) z 0) e ∙ get_or-set_same sets c x 0 l) h.1)

  pub to_written : (d v : ℕ) → d ≡ c → v < 64 → In x v → Remains (set sets c x) d v
  to_written d v e b h = (b, subst (λ (y : ℕ). In y v) (sym (ap (λ (z : ℕ). get_or (set sets c x) z 0) e ∙ get_or-set_same sets c x 0 l)) h)

pub at_other : (sets : List ℕ) (c x d v : ℕ) → d ≢ c → Remains (set sets c x) d v → Remains sets d v
at_other sets c x d v ne h = (h.0, subst (λ (y : ℕ). In y v) (get_or-set_other sets c d x 0 ne) h.1)

pub to_other : (sets : List ℕ) (c x d v : ℕ) → d ≢ c → Remains sets d v → Remains (set sets c x) d v
to_other sets c x d v ne h = (h.0, subst (λ (y : ℕ). In y v) (sym (get_or-set_other sets c d x 0 ne)) h.1)

-- ---- without one place
module _ (sets : List ℕ) (c v : ℕ) (l : c < length sets) (h : In (left_at sets c) v) where
  pub out_within : Within (out_of sets c v) sets
  out_within d w k = elim (cases_eq d c) [
    | inl e ↦
        let p = at_written sets c (left_at sets c - 2 ^ v) l d w e k in
        elim (cases_eq w v) [
          | inl q ↦ absurd (out_same (left_at sets c) v h (subst (λ (y : ℕ). In (left_at sets c - 2 ^ v) y) q p.1))
          | inr ne ↦ (p.0, subst (λ (y : ℕ). In (left_at sets y) w) (sym e) (sym (out_other (left_at sets c) v w h ne) ∙ p.1))
        ]
    | inr ne ↦ at_other sets c (left_at sets c - 2 ^ v) d w ne k
  ]

  -- what remains and is not that place remains
  pub out_keeps : (d w : ℕ) → Remains sets d w → (d ≡ c → w ≡ v → ⊥) → Remains (out_of sets c v) d w
  out_keeps d w k n = elim (cases_eq d c) [
    | inl e ↦ to_written sets c (left_at sets c - 2 ^ v) l d w e k.0 (out_other (left_at sets c) v w h (n e) ∙ subst (λ (y : ℕ). In (left_at sets y) w) e k.1)
    | inr ne ↦ to_other sets c (left_at sets c - 2 ^ v) d w ne k
  ]

  -- a filling with another place there stays inside
  pub out_inside : (f : List ℕ) → Inside f sets → get_or f c 0 ≢ v → Inside f (out_of sets c v)
  out_inside f ins ne =
      let e : length (out_of sets c v) ≡ length sets = length-set sets c (left_at sets c - 2 ^ v) in
      record {
        long = ins.long ∙ sym e;
        each = λ d k. out_keeps d (get_or f d 0) (ins.each d (omega arith)) (λ q q'. ne (ap (λ (z : ℕ). get_or f z 0) (sym q) ∙ q'));
      }

-- ---- one place alone
module _ (sets : List ℕ) (c v : ℕ) (l : c < length sets) where
  pub alone_within : Remains sets c v → Within (set sets c (2 ^ v)) sets
  alone_within h d w k = elim (cases_eq d c) [
    | inl e ↦
        let p = at_written sets c (2 ^ v) l d w e k in
        elim (cases_eq w v) [
          | inl q ↦ subst₂ (λ (a b : ℕ). Remains sets a b) (sym e) (sym q) h
          | inr ne ↦ absurd (let z = pow_other v w ne in omega (arith, p.1))
        ]
    | inr ne ↦ at_other sets c (2 ^ v) d w ne k
  ]

  pub alone_inside : (f : List ℕ) → Inside f sets → get_or f c 0 ≡ v → Inside f (set sets c (2 ^ v))
  alone_inside f ins e =
      let n : length (set sets c (2 ^ v)) ≡ length sets = length-set sets c (2 ^ v) in
      record {
        long = ins.long ∙ sym n;
        each = λ d k.
            let r = ins.each d (omega arith) in
            elim (cases_eq d c) [
              | inl q ↦ to_written sets c (2 ^ v) l d (get_or f d 0) q r.0 (subst (λ (y : ℕ). In (2 ^ v) y) (sym (ap (λ (z : ℕ). get_or f z 0) q ∙ e)) (pow_same v))
              | inr ne ↦ to_other sets c (2 ^ v) d (get_or f d 0) ne r
            ];
      }

  pub alone_full : v < 64 → Full sets → Full (set sets c (2 ^ v))
  alone_full b full d k = elim (cases_eq d c) [
    | inl e ↦ λ z. z v (to_written sets c (2 ^ v) l d v e b (pow_same v))
    | inr ne ↦ λ z. full d (rw (length-set sets c (2 ^ v)) at k) (λ w r. z w (to_other sets c (2 ^ v) d w ne r))
  ]

-- ---- full sets stay so, where the cell that is written is not empty
pub set_full : (sets : List ℕ) (c x : ℕ) → (Empty (set sets c x) c → ⊥) → Full sets → Full (set sets c x)
set_full sets c x some full d k = elim (cases_eq d c) [
  | inl e ↦ λ z. some (subst (λ (y : ℕ). Empty (set sets c x) y) e z)
  | inr ne ↦ λ z. full d (rw (length-set sets c x) at k) (λ w r. z w (to_other sets c x d w ne r))
]
