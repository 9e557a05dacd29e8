-- Lines one after another. Assumes nothing.
use Rattle.std.proofs.Common.{◌≡◌, ℕ, ◌+◌, Bool, true, false, cond, List, [], ◌∷◌, ◌++◌, sym, refl, ap, ◌∙◌, append_assoc, append-nil, add-one}
use Rattle.std.specs.List.{range_with_len, flat_map}
use Rattle.std.proofs.lemmas.List.{flat_map_more}
use Rattle.std.proofs.lemmas.List.Concat.{flat_map-append}
use Rattle.bits.proofs.Lists.{range_push}
use Rattle.bits.specs.Sets.{in?, below, members}

-- the first line, and then the others
pub after_first : (out first word number rest was now : List ℕ) → first ≡ word ++ (number ++ (10 ∷ [])) → was ≡ out ++ first → now ≡ was ++ rest → now ≡ out ++ (word ++ (number ++ (10 ∷ rest)))
after_first out first word number rest was now is p q =
    q ∙ ap (λ l. l ++ rest) (p ∙ ap (λ l. out ++ l) is) ∙ append_assoc out (word ++ (number ++ (10 ∷ []))) rest
    ∙ ap (λ l. out ++ l) (append_assoc word (number ++ (10 ∷ [])) rest ∙ ap (λ l. word ++ l) (append_assoc number (10 ∷ []) rest))

joined_cond : {X A : Type 0} (f : X → List A) (b : Bool) (x : X) → flat_map f (cond b (x ∷ []) []) ≡ cond b (f x) []
joined_cond f true x = append-nil (f x)
joined_cond f false x = refl

-- the lines of a set's members, rule by rule
pub rules_more : (f : ℕ → List ℕ) (s n : ℕ) (start was now : List ℕ) → was ≡ start ++ flat_map f (below n s) → now ≡ was ++ cond (in? s n) (f n) [] → now ≡ start ++ flat_map f (below (n + 1) s)
unfolding below
rules_more f s n start was now p q =
    q ∙ ap (λ l. l ++ cond (in? s n) (f n) []) p ∙ append_assoc start (flat_map f (below n s)) (cond (in? s n) (f n) [])
    ∙ ap (λ l. start ++ l) (ap (λ l. flat_map f (below n s) ++ l) (sym (joined_cond f (in? s n) n)) ∙ sym (flat_map-append f (below n s) (cond (in? s n) (n ∷ []) [])) ∙ ap (λ k. flat_map f (below k s)) (sym (add-one n)))

pub rules_none : (f : ℕ → List ℕ) (s : ℕ) (start : List ℕ) → start ≡ start ++ flat_map f (below 0 s)
unfolding below
rules_none f s start = sym (append-nil start)

pub rules_all : (f : ℕ → List ℕ) (s : ℕ) → flat_map f (below 64 s) ≡ flat_map f (members s)
unfolding members
rules_all f s = refl

-- the lines of the first cells, cell by cell
pub cells_more : (f : ℕ → List ℕ) (n : ℕ) (start was now : List ℕ) → was ≡ start ++ flat_map f (range_with_len 0 n) → now ≡ was ++ f n → now ≡ start ++ flat_map f (range_with_len 0 (n + 1))
cells_more f n start was now p q =
    q ∙ ap (λ l. l ++ f n) p ∙ flat_map_more f start (range_with_len 0 n) n ∙ ap (λ l. start ++ flat_map f l) (sym (range_push n))

pub cells_none : (f : ℕ → List ℕ) (start : List ℕ) → start ≡ start ++ flat_map f (range_with_len 0 0)
cells_none f start = sym (append-nil start)
