-- Where more rows are allowed than stored, one of them is not stored. Assumes nothing.
use Rattle.std.proofs.Common.{◌≡◌, ℕ, zero, suc, ◌+◌, ◌*◌, ◌/◌, ◌%◌, ◌^◌, ◌<◌, ◌≤◌, ◌≢◌, Bool, true, false, ◌&&◌, ◌||◌, eqb, ltb, ◌⊎◌, List, [], ◌∷◌, length, get_or, take, set, Decides, sym, refl, ap, ◌∙◌, subst, inl, inr, ⊎_elim, add-zero, mul_assoc, add-mul, mul-pos, one-mul, pow-suc, zero-add, zero-mul, mul-one, add-one, arith, length-set}
use Rattle.std.specs.Str.{bytes_eq}
use Rattle.std.proofs.lemmas.Nat.{mul-le}
use Rattle.std.proofs.lemmas.List.{get_or-set_same, get_or-set_other}
use Rattle.std.proofs.lemmas.Slice.Eq.{bytes_eq-Decides}
use Rattle.std.proofs.lemmas.Bool.{both_ways, cases_Bool, cases_eq, cases_order, and_parts, and_from, eq-eqb, ne_eqb, lt-ltb, le-ltb}
use Rattle.std.proofs.lemmas.Bool.Decides.{Decides-below_or}
use Rattle.bits.specs.Sets.{In, below, members, size}
use Rattle.bits.proofs.Size.{below_yes, below_no, below_zero, size_le, some_size}
use Rattle.network.specs.Tries.{Allowed, GoesOn, Tried}
use Rattle.network.proofs.Chosen.{all_chosen, with_place}
use Rattle.rows.specs.Support.{rows_within}

-- ---- how many of the first n numbers pass a test
abbrev bit : Bool → ℕ
bit true = 1
bit false = 0

bit_yes : (b : Bool) → b ≡ true → bit b ≡ 1
bit_yes b e = ap bit e

bit_no : (b : Bool) → b ≡ false → bit b ≡ 0
bit_no b e = ap bit e

abbrev tally : (ℕ → Bool) → ℕ → ℕ
tally p zero = 0
tally p (suc n) = bit (p n) + tally p n

bit_le : (b : Bool) → bit b ≤ 1
bit_le true = omega arith
bit_le false = omega arith

bit_less : (b c : Bool) → (b ≡ true → c ≡ true) → bit b ≤ bit c
bit_less true c h = omega (arith, bit_yes c (h refl))
bit_less false c h = omega arith

tally_le : (p : ℕ → Bool) (n : ℕ) → tally p n ≤ n
tally_le p zero = omega arith
tally_le p (suc n) = omega (arith, tally_le p n, bit_le (p n))

tally_less : (p q : ℕ → Bool) → ((j : ℕ) → p j ≡ true → q j ≡ true) → (n : ℕ) → tally p n ≤ tally q n
tally_less p q h zero = omega arith
tally_less p q h (suc n) = omega (arith, tally_less p q h n, bit_less (p n) (q n) (h n))

tally_some : (p : ℕ → Bool) (j n : ℕ) → j < n → p j ≡ true → 1 ≤ tally p n
tally_some p j zero l e = absurd (omega arith)
tally_some p j (suc n) l e = ⊎_elim
    (λ s. omega (arith, bit_yes (p n) (subst (λ k. p k ≡ true) s e)))
    (λ ne. omega (arith, tally_some p j n (omega arith) e))
    (cases_eq j n)

-- a number is below k, or k, but not both
bit_split : (b : Bool) (q k : ℕ) → bit (b && ltb q k) + bit (b && eqb q k) ≤ bit (b && ltb q (suc k))
bit_split false q k = omega arith
bit_split true q k = ⊎_elim
    (λ e. omega (arith, bit_no (ltb q k) (le-ltb q k (omega arith)), bit_le (eqb q k), bit_yes (ltb q (suc k)) (lt-ltb q (suc k) (omega arith))))
    (λ o. ⊎_elim
    (λ l. omega (arith, bit_le (ltb q k), bit_no (eqb q k) (ne_eqb q k (λ e. omega arith)), bit_yes (ltb q (suc k)) (lt-ltb q (suc k) (omega arith))))
    (λ g. omega (arith, bit_no (ltb q k) (le-ltb q k (omega arith)), bit_no (eqb q k) (ne_eqb q k (λ e. omega arith))))
    o)
    (cases_order q k)

tally_split : (b : ℕ → Bool) (q : ℕ → ℕ) (k n : ℕ)
    → tally (λ j. b j && ltb (q j) k) n + tally (λ j. b j && eqb (q j) k) n ≤ tally (λ j. b j && ltb (q j) (suc k)) n
tally_split b q k zero = omega arith
tally_split b q k (suc n) = omega (arith, tally_split b q k n, bit_split (b n) (q n) k)

-- each member of a set is at least x of the numbers: then all together are
module _ {A : Type 0} (b : ℕ → Bool) (q : ℕ → ℕ) (n m x : ℕ) (each : (v : ℕ) → v < 64 → In m v → A ⊎ (x ≤ tally (λ j. b j && eqb (q j) v) n)) where
  shares : (k : ℕ) → k ≤ 64 → A ⊎ (length (below k m) * x ≤ tally (λ j. b j && ltb (q j) k) n)
  shares zero h = inr (let e : length (below 0 m) * x ≡ 0 = ap (λ (y : ℕ). y * x) (below_zero m) ∙ zero-mul x in omega arith)
  shares (suc k) h = ⊎_elim inl
      (λ before.
      let split = tally_split b q k n in
      ⊎_elim
      (λ is. ⊎_elim inl
      (λ here.
      let e : length (below (suc k) m) * x ≡ length (below k m) * x + 1 * x = ap (λ (y : ℕ). y * x) (below_yes k m is) ∙ add-mul (length (below k m)) 1 x in
      inr (omega (arith, one-mul x)))
      (each k (omega arith) is))
      (λ none. inr (let e : length (below (suc k) m) * x ≡ length (below k m) * x = ap (λ (y : ℕ). y * x) (below_no k m none) in omega arith))
      (cases_eq (m / 2 ^ k % 2) 1))
      (shares k (omega arith))

  shared : A ⊎ (size m * x ≤ tally b n)
  unfolding members
  shared = ⊎_elim inl
      (λ all. inr (omega (arith, all, tally_less (λ j. b j && ltb (q j) 64) b (λ j e. (and_parts (b j) (ltb (q j) 64) e).0) n)))
      (shares 64 (omega arith))

-- ---- rows: `at` gives count of them
module _ (at : ℕ → List ℕ) (count : ℕ) (masks : List ℕ) where
  -- a row that goes on so and is none of them
  abbrev New : List ℕ → ℕ → Type 0
  New places n = (row : List ℕ) × GoesOn masks places n row × ((j : ℕ) → j < count → at j ≢ row)

  -- the allowed rows of d positions from n on
  abbrev ways : ℕ → ℕ → ℕ
  ways zero n = 1
  ways (suc d) n = size (get_or masks n 0) * ways d (n + 1)

  ways_within : (d n : ℕ) → rows_within masks n * ways d n ≡ rows_within masks (n + d)
  ways_within zero n = mul-one (rows_within masks n) ∙ ap (rows_within masks) (sym (add-zero n))
  ways_within (suc d) n =
      sym (mul_assoc (rows_within masks n) (size (get_or masks n 0)) (ways d (n + 1)))
      ∙ ap (λ (y : ℕ). rows_within masks y * ways d (n + 1)) (sym (add-one n))
      ∙ ways_within d (n + 1) ∙ ap (rows_within masks) (omega arith)

  -- the row is one of the first n
  abbrev is_one : List ℕ → ℕ → Bool
  is_one row zero = false
  is_one row (suc n) = bytes_eq (at n) row || is_one row n

  is_one_decides : (row : List ℕ) → Decides (is_one row count) ((j : ℕ) × (j < count) × (at j ≡ row))
  is_one_decides row = Decides-below_or (λ j. bytes_eq (at j) row) (λ j. at j ≡ row) (is_one row) (λ j. bytes_eq-Decides (at j) row) refl (λ _. refl) count

  -- a new row, or as many rows that begin so as there are ways to go on; b is the test for these
  new_or : (d n : ℕ) (places : List ℕ) (b : ℕ → Bool) → n + d ≡ length masks → length masks ≤ length places
      → ((j : ℕ) → ((k : ℕ) → k < n → get_or (at j) k 0 ≡ get_or places k 0) → b j ≡ true)
      → New places n ⊎ (ways d n ≤ tally b count)
  new_or zero n places b end wide begins =
      let row = take n places in
      let new = all_chosen masks places n (omega arith) (omega arith) in
      ⊎_elim
      (λ t. let j = (is_one_decides row).0 t in
      inr (tally_some b j.0 count j.1 (begins j.0 (λ k h. ap (λ x. get_or x k 0) j.2 ∙ new.begins k h))))
      (λ f. inl (row, new, λ j lt e. both_ways _ f ((is_one_decides row).1 (j, lt, e))))
      (cases_Bool (is_one row count))
  new_or (suc d) n places b end wide begins =
      shared b (λ j. get_or (at j) n 0) count (get_or masks n 0) (ways d (n + 1))
      (λ v low is. ⊎_elim
      (λ u. inl (u.0, with_place masks places n v (omega arith) u.0 (low, is) u.1, u.2))
      inr
      (new_or d (n + 1) (set places n v) (λ j. b j && eqb (get_or (at j) n 0) v) (omega arith) (omega (arith, length-set places n v))
      (λ j same. and_from (b j) (eqb (get_or (at j) n 0) v)
      (begins j (λ k h. same k (omega arith) ∙ get_or-set_other places n k v 0 (λ e. omega arith)))
      (eq-eqb (get_or (at j) n 0) v (same n (omega arith) ∙ get_or-set_same places n v 0 (omega arith))))))

  pub more_than_stored : length masks ≤ 4 → count < rows_within masks (length masks) → (row : List ℕ) × Tried masks row × ((j : ℕ) → j < count → at j ≢ row)
  more_than_stored few more = ⊎_elim
      (λ u. (u.0, (u.1.wide, λ k h. u.1.each k (omega arith) h), u.2))
      (λ le. absurd (omega (arith, tally_le (λ _. true) count, one-mul (ways (length masks) 0), ways_within (length masks) 0, ap (rows_within masks) (zero-add (length masks)))))
      (new_or (length masks) 0 (0 ∷ 0 ∷ 0 ∷ 0 ∷ []) (λ _. true) (omega arith) few (λ j _. refl))

-- a row with allowed places only is one
pub some_within : (masks row : List ℕ) (n : ℕ) → ((k : ℕ) → k < n → Allowed masks k (get_or row k 0)) → 0 < rows_within masks n
some_within masks row zero all = omega arith
some_within masks row (suc n) all =
    let here = all n (omega arith) in
    mul-pos (some_within masks row n (λ k h. all k (omega arith))) (some_size (get_or masks n 0) (get_or row n 0) here.0 here.1)

-- few rows of few positions
within_le : (masks : List ℕ) (n : ℕ) → rows_within masks n ≤ 64 ^ n
within_le masks zero = omega arith
within_le masks (suc n) = rw (pow-suc 64 n) (mul-le (rows_within masks n) (size (get_or masks n 0)) (64 ^ n) 64 (within_le masks n) (size_le (get_or masks n 0)))

pub within_small : (masks : List ℕ) (n : ℕ) → n < 4 → rows_within masks n ≤ 262144
within_small masks zero h = omega arith
within_small masks (suc zero) h = omega (arith, within_le masks 1)
within_small masks (suc (suc zero)) h = omega (arith, within_le masks 2)
within_small masks (suc (suc (suc zero))) h = omega (arith, within_le masks 3)
within_small masks (suc (suc (suc (suc n)))) h = absurd (omega arith)
