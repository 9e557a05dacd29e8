-- Masks cut to the cells' lists, and the rows that are tried with them. Assumes nothing.
use Rattle.std.proofs.Common.{◌≡◌, ℕ, ◌+◌, ◌<◌, ◌≤◌, ◌↔◌, List, length, get_or, take, set, sym, ap, ◌∙◌, subst, ⊎_elim, arith}
use lib.Bits.{bit_and}
use Rattle.std.proofs.lemmas.Bool.{cases_eq}
use Rattle.std.proofs.lemmas.Grind.{get_or-set_at}
use Rattle.std.proofs.lemmas.List.{get_or-set_other, get_or-take, length-take-le}
use Rattle.bits.specs.Sets.{In}
use Rattle.bits.proofs.Bits.{and_has, has_and}
use Rattle.network.specs.Tries.{Allowed, Tried}

-- what is in both a mask and a list
in_both : (m x places v : ℕ) → (v < 64 → In x v ↔ v < places) → (v < 64) × In (bit_and m x) v ↔ ((v < 64) × In m v) × (v < places)
in_both m x places v list = (
  (λ a. let b = and_has m x v a.1 in ((a.0, b.0), (list a.0).0 b.1)),
  (λ b. (b.0.0, has_and m x v b.0.1 ((list b.0.0).1 b.1))),
)

module _ (lengths cells allowed : List ℕ) where
  abbrev places : ℕ → ℕ
  places k = get_or lengths (get_or cells k 0) 0

  -- the first n masks are cut, and the others as they were
  abbrev pub CutTo : ℕ → List ℕ → Type 0
  CutTo n masks = (k : ℕ) → k < 4
      → (k < n → (v : ℕ) → Allowed masks k v ↔ Allowed allowed k v × (v < places k))
      × (n ≤ k → get_or masks k 0 ≡ get_or allowed k 0)

  -- one more, by the list x of the cell at position n
  pub cut_more : (n x : ℕ) (masks : List ℕ) → n < length masks → ((v : ℕ) → v < 64 → In x v ↔ v < places n)
      → CutTo n masks → CutTo (n + 1) (set masks n (bit_and (get_or masks n 0) x))
  cut_more n x masks room list i k h = ⊎_elim
      (λ e.
      let at : get_or (set masks n (bit_and (get_or masks n 0) x)) k 0 ≡ bit_and (get_or allowed k 0) x =
      get_or-set_at masks n k (bit_and (get_or masks n 0) x) 0 e room ∙ ap (λ m. bit_and m x) (ap (λ y. get_or masks y 0) (sym e) ∙ (i k h).1 (omega arith)) in (
        (λ _ v. subst (λ m. (v < 64) × In m v ↔ Allowed allowed k v × (v < places k)) (sym at)
            (in_both (get_or allowed k 0) x (places k) v (subst (λ y. v < 64 → In x v ↔ v < places y) (sym e) (list v)))),
        (λ l. absurd (omega arith)),
      ))
      (λ ne.
      let at : get_or (set masks n (bit_and (get_or masks n 0) x)) k 0 ≡ get_or masks k 0 = get_or-set_other masks n k (bit_and (get_or masks n 0) x) 0 ne in (
        (λ l v. subst (λ m. (v < 64) × In m v ↔ Allowed allowed k v × (v < places k)) (sym at) ((i k h).0 (omega arith) v)),
        (λ l. at ∙ (i k h).1 (omega arith)),
      ))
      (cases_eq k n)

-- a row that is tried with the first of four masks is tried with those of four others that allow its places
pub tried_with : (n : ℕ) (masks others row : List ℕ) → n ≤ 4 → length masks ≡ 4 → length others ≡ 4
    → ((k : ℕ) → k < n → k < 4 → Allowed masks k (get_or row k 0) → Allowed others k (get_or row k 0)) → Tried (take n masks) row → Tried (take n others) row
tried_with n masks others row few four four' allows t = (
  t.0 ∙ wide masks four ∙ sym (wide others four'),
  λ k h.
      let l : k < n = omega (arith, wide others four') in
      let a = t.1 k (omega (arith, wide masks four)) in
      let b = allows k l (omega arith) (a.0, subst (λ m. In m (get_or row k 0)) (get_or-take n masks k 0 l) a.1) in
      (b.0, subst (λ m. In m (get_or row k 0)) (sym (get_or-take n others k 0 l)) b.1),
)
  where
    wide : (ms : List ℕ) → length ms ≡ 4 → length (take n ms) ≡ n
    wide ms long = length-take-le n ms (omega arith)
