-- A list read number by number. Assumes nothing.
use Rattle.std.proofs.Common.{◌≡◌, ℕ, zero, suc, ◌+◌, ◌*◌, ◌/◌, ◌<◌, ◌≤◌, ◌≢◌, List, [], ◌∷◌, ◌++◌, length, get_or, take, drop, set, ℤ, pos, nat_abs, sym, refl, ap, ◌∙◌, subst, ap₂, ⊎_elim, arith, w32, SFits, to_z, of_z, below_more}
use Rattle.std.proofs.lemmas.Int.{to_z-of_z}
use Rattle.std.proofs.lemmas.List.{nil_from_length, take-append-drop, drop-drop, length-drop, get_or-set_same, get_or-set_other, drop-set-lt, get_or-take, length-take-le}
use Rattle.std.proofs.lemmas.Bool.{cases_lt}
use Rattle.std.specs.Simd.{first_chunks}
use Rattle.sheets.specs.declared.fault.RuleFault.TheVariants.{List as ListFault}
use Rattle.sheets.specs.Sheet.{four_bytes, list_bytes, GoodList}
use Rattle.sheets.proofs.Contents.{small_fits, four_unique}
use Rattle.load.specs.Read.{ReadList, NoList}

-- a number is what its four bytes say
pub four_same : (y z : ℤ) → SFits w32 y → SFits w32 z → four_bytes y ≡ four_bytes z → y ≡ z
four_same y z p q e = (four_unique y z p q [] [] e).0

-- a number is what its bits say
pub by_bits : (z : ℤ) (l : List ℕ) → SFits w32 z → four_bytes z ≡ l → SFits w32 (to_z w32 (of_z w32 z)) × (four_bytes (to_z w32 (of_z w32 z)) ≡ l)
by_bits z l f e = let b = to_z-of_z w32 z f in (subst (SFits w32) (sym b) f, ap four_bytes b ∙ e)

-- four bytes of some bytes, as they are cut
chunk_at : (n k : ℕ) (bytes : List ℕ) → k < n → get_or (first_chunks 4 n bytes) k [] ≡ take 4 (drop (4 * k) bytes)
chunk_at zero k bytes h = absurd (omega arith)
chunk_at (suc n) zero bytes h = refl
chunk_at (suc n) (suc k) bytes h =
    let e : 4 * suc k ≡ 4 + 4 * k = omega arith in
    chunk_at n k (drop 4 bytes) (omega arith) ∙ ap (take 4) (drop-drop (4 * k) 4 bytes ∙ ap (λ m. drop m bytes) (sym e))

-- number k is read from the chunk there
pub read_at : (bytes : List ℕ) (k : ℕ) (chunks : List (List ℕ)) (z : ℤ) → four_bytes z ≡ get_or chunks k [] → chunks ≡ first_chunks 4 (length bytes / 4) bytes → k < length bytes / 4 → four_bytes z ≡ take 4 (drop (4 * k) bytes)
read_at bytes k chunks z is cut h = is ∙ ap (λ xss. get_or xss k []) cut ∙ chunk_at (length bytes / 4) k bytes h

-- the bytes of number k of a list
said_at : (zs : List ℤ) (k : ℕ) → k < length zs → take 4 (drop (4 * k) (list_bytes zs)) ≡ four_bytes (get_or zs k (pos 0))
said_at [] k h = absurd (omega arith)
said_at (z ∷ zs) zero h = refl
said_at (z ∷ zs) (suc k) h =
    let e : 4 * suc k ≡ suc (suc (suc (suc (4 * k)))) = omega arith in
    ap (λ n. take 4 (drop n (four_bytes z ++ list_bytes zs))) e ∙ said_at zs k (omega arith)

pub long : (zs : List ℤ) → length (list_bytes zs) ≡ 4 * length zs
long [] = refl
long (z ∷ zs) = omega (arith, long zs)

-- bytes in which each number of a list is found at its place
said_whole : (zs : List ℤ) (bytes : List ℕ) → length bytes ≡ 4 * length zs → ((j : ℕ) → j < length zs → four_bytes (get_or zs j (pos 0)) ≡ take 4 (drop (4 * j) bytes)) → bytes ≡ list_bytes zs
said_whole [] bytes n h = nil_from_length bytes (omega arith)
said_whole (z ∷ zs) bytes n h =
    sym (take-append-drop 4 bytes)
    ∙ ap₂ (λ (a b : List ℕ). a ++ b) (sym (h 0 (omega arith))) (said_whole zs (drop 4 bytes) (omega (arith, length-drop 4 bytes)) (λ j l. h (suc j) (omega arith) ∙ ap (take 4) (later j)))
  where
    later : (j : ℕ) → drop (4 * suc j) bytes ≡ drop (4 * j) (drop 4 bytes)
    later j = let e : 4 * suc j ≡ 4 + 4 * j = omega arith in ap (λ m. drop m bytes) e ∙ sym (drop-drop (4 * j) 4 bytes)

-- the first k numbers are read, and stand at the front of the store
pub record SoFar (content : List ℕ) (before after : List ℤ) (k : ℕ) : Type 0 where
  pub same : length after ≡ length before
  pub said : (j : ℕ) → j < k → four_bytes (get_or after j (pos 0)) ≡ take 4 (drop (4 * j) content)
  pub small : (j : ℕ) → j < k → nat_abs (get_or after j (pos 0)) ≤ 1000000
  pub apart : (i j : ℕ) → i < j → j < k → get_or after i (pos 0) ≡ get_or after j (pos 0) → ⊥
  pub rest : drop k after ≡ drop k before

pub one_more : (content : List ℕ) (before after : List ℤ) (k : ℕ) (z : ℤ) → SoFar content before after k → k < length after
    → four_bytes z ≡ take 4 (drop (4 * k) content) → nat_abs z ≤ 1000000 → ((j : ℕ) → j < k → get_or after j (pos 0) ≡ z → ⊥) → SoFar content before (set after k z) (k + 1)
one_more content before after k z s h e few new = record {
  same = lib.ListN.length-set after k z ∙ s.same;
  said = below_more (λ j. four_bytes (get_or (set after k z) j (pos 0)) ≡ take 4 (drop (4 * j) content)) k (λ j l. ap four_bytes (old j l) ∙ s.said j l) (ap four_bytes here ∙ e);
  small = below_more (λ j. nat_abs (get_or (set after k z) j (pos 0)) ≤ 1000000) k (λ j l. subst (λ (y : ℤ). nat_abs y ≤ 1000000) (sym (old j l)) (s.small j l)) (subst (λ (y : ℤ). nat_abs y ≤ 1000000) (sym here) few);
  apart = λ i j l m q. ⊎_elim
      (λ b. s.apart i j l b (sym (old i (omega arith)) ∙ q ∙ old j b))
      (λ b. let is : j ≡ k = omega arith in new i (omega arith) (sym (old i (omega arith)) ∙ q ∙ ap (λ n. get_or (set after k z) n (pos 0)) is ∙ here))
      (cases_lt j k);
  rest = drop-set-lt (k + 1) after k z (omega arith) ∙ sym (further after) ∙ ap (drop 1) s.rest ∙ further before;
}
  where
    here : get_or (set after k z) k (pos 0) ≡ z
    here = get_or-set_same after k z (pos 0) h

    old : (j : ℕ) → j < k → get_or (set after k z) j (pos 0) ≡ get_or after j (pos 0)
    old j l = let ne : j ≢ k = omega arith in get_or-set_other after k j z (pos 0) ne

    further : (l : List ℤ) → drop 1 (drop k l) ≡ drop (k + 1) l
    further l = drop-drop 1 k l

pub all_read : (content : List ℕ) (before after : List ℤ) (n : ℕ) → SoFar content before after n → length content ≡ 4 * n → 1 ≤ n → n ≤ 64 → length before ≡ 64 → ReadList content before after n
all_read content before after n s long some few room = record {
  list = take n after;
  good = record {
    some = omega (arith, length_is);
    few = omega (arith, length_is);
    small = λ k h. subst (λ (y : ℤ). nat_abs y ≤ 1000000) (sym (at k (omega (arith, length_is)))) (s.small k (omega (arith, length_is)));
    apart = λ j k h l e. s.apart j k h (omega (arith, length_is)) (sym (at j (omega (arith, length_is))) ∙ e ∙ at k (omega (arith, length_is)));
  };
  said = said_whole (take n after) content (omega (arith, length_is)) (λ j h. ap four_bytes (at j (omega (arith, length_is))) ∙ s.said j (omega (arith, length_is)));
  count = sym length_is;
  stored = sym (take-append-drop n after) ∙ ap (λ l. take n after ++ l) (s.rest ∙ ap (λ m. drop m before) (sym length_is));
}
  where
    length_is : length (take n after) ≡ n
    length_is = length-take-le n after (omega (arith, s.same))

    at : (j : ℕ) → j < n → get_or (take n after) j (pos 0) ≡ get_or after j (pos 0)
    at j h = get_or-take n after j (pos 0) h

-- a content of another length is no good list
pub not_long : (content : List ℕ) (tag : ℕ) → ((n : ℕ) → length content ≡ 4 * n → 1 ≤ n → n ≤ 64 → ⊥) → NoList content tag (ListFault tag)
not_long content tag h = record { fault_is = refl; none = λ zs g e. h (length zs) (ap length e ∙ long zs) g.some g.few }

-- number k of a good list with that content
pub is_at : (content : List ℕ) (zs : List ℤ) (k : ℕ) (z : ℤ) → SFits w32 z → GoodList zs → content ≡ list_bytes zs → 4 * k < length content → four_bytes z ≡ take 4 (drop (4 * k) content)
    → (k < length zs) × (z ≡ get_or zs k (pos 0))
is_at content zs k z f g e h q =
    let l : k < length zs = omega (arith, ap length e, long zs) in
    (l, four_same z (get_or zs k (pos 0)) f (small_fits _ (g.small k l)) (q ∙ ap (λ b. take 4 (drop (4 * k) b)) e ∙ said_at zs k l))

pub not_small : (content : List ℕ) (tag k : ℕ) (z : ℤ) → SFits w32 z → 4 * k < length content → four_bytes z ≡ take 4 (drop (4 * k) content) → (nat_abs z ≤ 1000000 → ⊥) → NoList content tag (ListFault tag)
not_small content tag k z f h q big = record {
  fault_is = refl;
  none = λ zs g e. let i = is_at content zs k z f g e h q in big (subst (λ (y : ℤ). nat_abs y ≤ 1000000) (sym i.1) (g.small k i.0));
}

pub not_new : (content : List ℕ) (before after : List ℤ) (tag k : ℕ) (z : ℤ) → SoFar content before after k → SFits w32 z → 4 * k < length content → four_bytes z ≡ take 4 (drop (4 * k) content)
    → (((j : ℕ) → j < k → get_or after j (pos 0) ≡ z → ⊥) → ⊥) → NoList content tag (ListFault tag)
not_new content before after tag k z s f h q old = record {
  fault_is = refl;
  none = λ zs g e.
      let i = is_at content zs k z f g e h q in
      old (λ j l same.
      let o = is_at content zs j (get_or after j (pos 0)) (small_fits _ (s.small j l)) g e (omega arith) (s.said j l) in
      g.apart j k l i.0 (sym o.1 ∙ same ∙ i.1));
}
