-- One revision, from what the code tests. Assumes nothing.
use Rattle.std.proofs.Common.{◌≡◌, ℕ, zero, suc, ◌+◌, ◌-◌, ◌*◌, ◌/◌, ◌%◌, ◌^◌, ◌<◌, ◌≤◌, true, ◌≢◌, List, length, get_or, set, sym, refl, ap, ◌∙◌, subst, subst₂, inl, inr, add-zero, add-suc, one-mul, pow-suc, arith, length-set, pow_pos, pow_mono}
use Rattle.std.specs.Prelude.{sum}
use lib.Bits.{bit_or}
use lib.Count.{count_leading_zeros}
use Rattle.std.proofs.lemmas.List.{get_or-set_same}
use Rattle.std.proofs.lemmas.Bool.{true≢false, cases_eq}
use Rattle.std.proofs.lemmas.Nat.{leading_length, leading_top, le-div, div_below}
use Rattle.bits.specs.Sets.{In}
use Rattle.bits.proofs.Bits.{has_zero, has_le}
use Rattle.bits.proofs.Size.{not_zero}
use Rattle.network.specs.Book.{BookMeaning, Supported, Remains}
use Rattle.runs.specs.Settle.{Turns, Turns.none, Turns.more, State, state, cell_at, Lost, Empty, out_of, weighed, Revises, Revises.absent, Revises.kept, Revises.removed, Empties, Empties.emptied}
use Rattle.runs.proofs.Steps.{out_total, out_within}
use Rattle.settling.specs.Report.{Report}

-- the rule r at position i has the cell c, and the place v is revised there
module _ (m : BookMeaning) (r i v : ℕ) (s : List ℕ) (u c : ℕ) (w : List ℕ) (at : c ≡ cell_at m r i) (small : v < 64) (within : cell_at m r i < length s) where
  pub absent_at : ((v < 64) × In (get_or s c 0) v → ⊥) → Revises m r i v (state s u w) (state s u w)
  absent_at h = absent (λ k. h (subst (λ (x : ℕ). Remains s x v) (sym at) k))

  lost_at : In (get_or s c 0) v → (Supported (m.rule r) i v s → ⊥) → Lost m r i v s
  lost_at h n = record { there = (small, subst (λ (x : ℕ). In (get_or s x 0) v) at h); unsupported = n }

  module _ (h : In (get_or s c 0) v) (n : Supported (m.rule r) i v s → ⊥) (rest used' : ℕ) (e : rest ≡ get_or s c 0 - 2 ^ v) (f : used' ≡ bit_or u (2 ^ r)) where
    out_is : out_of s (cell_at m r i) v ≡ set s c rest
    out_is = sym (ap (set s c) e ∙ ap (λ (x : ℕ). out_of s x v) at)

    left_is : get_or (set s c rest) (cell_at m r i) 0 ≡ rest
    left_is = ap (λ (x : ℕ). get_or (set s x rest) (cell_at m r i) 0) at ∙ get_or-set_same s (cell_at m r i) rest 0 within

    pub removed_at : rest < 2 ^ 64 → rest ≢ 0 → Revises m r i v (state s u w) (state (set s c rest) used' w)
    removed_at fits ne =
        let some : Empty (out_of s (cell_at m r i) v) (cell_at m r i) → ⊥ = λ none. not_zero rest fits ne (λ x l k.
        none x (l, subst (λ (t : List ℕ). In (get_or t (cell_at m r i) 0) x) (sym out_is) (subst (λ (y : ℕ). In y x) (sym left_is) k))) in
        subst₂ (λ (t : List ℕ) (y : ℕ). Revises m r i v (state s u w) (state t y w)) out_is (sym f) (removed (lost_at h n) some)

    pub emptied_at : rest ≡ 0 → Empties m r i v (state s u w) (state (set s c rest) used' (weighed r w))
    emptied_at z =
        let none : Empty (out_of s (cell_at m r i) v) (cell_at m r i) = λ x k.
        has_zero x (subst (λ (y : ℕ). In y x) (ap (λ (t : List ℕ). get_or t (cell_at m r i) 0) out_is ∙ left_is ∙ z) k.1) in
        subst₂ (λ (t : List ℕ) (y : ℕ). Empties m r i v (state s u w) (state t y (weighed r w))) out_is (sym f) (emptied (lost_at h n) none)

    pub report_at : Report true (state s u w) (state (set s c rest) used' w)
    report_at = record {
      same = λ q. absurd (true≢false q);
      less = λ _. subst (λ (t : List ℕ). sum t < sum s) out_is (out_total s (cell_at m r i) v within (subst (λ (x : ℕ). In (get_or s x 0) v) at h));
    }

-- ---- the places past the highest are absent
out_shrinks : (sets : List ℕ) (c v w : ℕ) → In (get_or sets c 0) v → Remains (out_of sets c v) c w → c < length sets → Remains sets c w
out_shrinks sets c v w h k l = out_within sets c v l h c w k

revises_shrinks : {m : BookMeaning} {r i v : ℕ} {s t : State} → Revises m r i v s t → cell_at m r i < length s.sets
    → (cell_at m r i < length t.sets) × ((w : ℕ) → Remains t.sets (cell_at m r i) w → Remains s.sets (cell_at m r i) w)
revises_shrinks (absent n) l = (l, λ w k. k)
revises_shrinks (kept p) l = (l, λ w k. k)
revises_shrinks {m} {r} {i} {v} (removed {s = s} lost e) l = (
  subst (λ (n : ℕ). cell_at m r i < n) (sym (length-set s.sets (cell_at m r i) (get_or s.sets (cell_at m r i) 0 - 2 ^ v))) l,
  λ w k. out_shrinks s.sets (cell_at m r i) v w lost.there.1 k l,
)

turns_shrink : {m : BookMeaning} {r i n : ℕ} {s t : State} → Turns (Revises m r i) n s t → cell_at m r i < length s.sets
    → (cell_at m r i < length t.sets) × ((w : ℕ) → Remains t.sets (cell_at m r i) w → Remains s.sets (cell_at m r i) w)
turns_shrink none l = (l, λ w k. k)
turns_shrink (more a b) l =
    let p = turns_shrink a l in
    let q = revises_shrinks b p.0 in
    (q.0, λ w k. p.1 w (q.1 w k))

turns_absent : {m : BookMeaning} {r i p : ℕ} {s t : State} (k : ℕ) → Turns (Revises m r i) p s t → ((v : ℕ) → p ≤ v → Remains t.sets (cell_at m r i) v → ⊥)
    → Turns (Revises m r i) (p + k) s t
turns_absent {m} {r} {i} {p} {s} {t} zero a h = subst (λ (n : ℕ). Turns (Revises m r i) n s t) (sym (add-zero p)) a
turns_absent {m} {r} {i} {p} {s} {t} (suc k) a h =
    subst (λ (n : ℕ). Turns (Revises m r i) n s t) (sym (add-suc p k)) (more (turns_absent k a h) (absent (h (p + k) (omega arith))))

-- so the places up to the highest are all
pub past_all : {m : BookMeaning} {r i : ℕ} {s t : State} (c p : ℕ) → c ≡ cell_at m r i → cell_at m r i < length s.sets → p ≤ 64
    → ((v : ℕ) → p ≤ v → In (get_or s.sets c 0) v → ⊥) → Turns (Revises m r i) p s t → Turns (Revises m r i) 64 s t
past_all {m} {r} {i} {s} {t} c p e l few above a =
    let e64 : p + (64 - p) ≡ 64 = omega arith in
    subst (λ (n : ℕ). Turns (Revises m r i) n s t) e64
    (turns_absent (64 - p) a (λ v h k. above v h (subst (λ (x : ℕ). In (get_or s.sets x 0) v) (sym e) ((turns_shrink a l).1 v k).1)))

-- ---- one past the highest of a set
small_pow : (m : ℕ) → 2 ^ m ≤ 1 → m ≡ 0
small_pow zero h = refl
small_pow (suc m) h = absurd (omega (arith, pow-suc 2 m, pow_pos m))

pub past_is : (a r : ℕ) → a < 2 ^ 64 → r + count_leading_zeros 64 a ≡ 64 → ((v : ℕ) → r ≤ v → In a v → ⊥) × (0 < r → In a (r - 1))
past_is a r l e = elim (cases_eq a 0) [
  | inl z ↦
      let p = leading_length 64 a l in
      let none : p.0 ≡ 0 = small_pow p.0 (omega (arith, p.3)) in
      (λ v h k. has_zero v (subst (λ (x : ℕ). In x v) z k), λ h. absurd (omega (arith, p.1)))
  | inr ne ↦
      let p = leading_top 64 a (omega arith) l in
      let j : ℕ = p.0 in
      let top : r ≡ suc j = omega (arith, p.1) in
      let two : a < 2 * 2 ^ j = omega (arith, p.3, pow-suc 2 j) in
      let q : a / 2 ^ j ≡ 1 = omega (arith, le-div 1 a (2 ^ j) (pow_pos j) (omega (arith, p.2, one-mul (2 ^ j))), div_below a (2 ^ j) 2 (pow_pos j) two) in
      let back : r - 1 ≡ j = omega arith in (
        λ v h k. omega (arith, has_le a v k, p.3, pow_mono {j = v} (rw top at h)),
        λ h. ap (λ (x : ℕ). a / 2 ^ x % 2) back ∙ ap (λ (x : ℕ). x % 2) q,
      )
]
