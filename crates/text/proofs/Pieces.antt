-- A text that is made of several pieces. Assumes nothing.
use Rattle.std.proofs.Common.{◌≡◌, ℕ, suc, ◌+◌, ◌<◌, ◌≤◌, cond, eqb, List, [], ◌∷◌, ◌++◌, length, get_or, take, sym, refl, ap, ◌∙◌, append_assoc, arith, ne_eqb}
use Rattle.std.specs.List.{flat_map, join_with_byte}
use Rattle.std.proofs.lemmas.List.{take_more, flat_map_more}
use Rattle.std.proofs.lemmas.Result.{IfOk-equal}
use Rattle.text.proofs.Decimals.{decimal_numeral}

-- for a line that is made of several pieces
pub ruleset pieces = (decimal_numeral, IfOk-equal, append_assoc)

-- one piece after another
pub after : {X : Type 0} {v w : List X} (u a b : List X) → v ≡ u ++ a → w ≡ v ++ b → w ≡ u ++ (a ++ b)
after u a b e f = f ∙ ap (λ l. l ++ b) e ∙ append_assoc u a b

-- ---- a text with a piece for each item of a list
pub front : {X : Type 0} (xs : List X) (i : ℕ) (d x : X) → i < length xs → get_or xs i d ≡ x → take (i + 1) xs ≡ take i xs ++ (x ∷ [])
front xs i d x lt is = take_more xs i d lt ∙ ap (λ y. take i xs ++ (y ∷ [])) is

-- one more piece of a text that began as a
module _ {X : Type 0} (xs : List X) (i : ℕ) (d x : X) (lt : i < length xs) (is : get_or xs i d ≡ x) (a u w : List ℕ) where
  pub joined_more : (f : X → List ℕ) → u ≡ a ++ flat_map f (take i xs) → w ≡ u ++ f x → w ≡ a ++ flat_map f (take (i + 1) xs)
  joined_more f e h = h ∙ ap (λ l. l ++ f x) e ∙ flat_map_more f a (take i xs) x ∙ ap (λ l. a ++ flat_map f l) (sym (front xs i d x lt is))

-- ---- a text with a byte between its pieces: what stands before the one at place i
abbrev pub gap : ℕ → ℕ → List ℕ
gap b i = cond (eqb i 0) [] (b ∷ [])

gap_some : (b n : ℕ) → gap b (suc n) ≡ b ∷ []
gap_some b n = ap (λ c. cond c [] (b ∷ [])) (ne_eqb (suc n) 0 (omega arith))

spaced_push : (b : ℕ) (ws : List (List ℕ)) (w : List ℕ) → join_with_byte b (ws ++ (w ∷ [])) ≡ join_with_byte b ws ++ (gap b (length ws) ++ w)
spaced_push b [] w = refl
spaced_push b (v ∷ []) w = ap (λ g. v ++ (g ++ w)) (sym (gap_some b 0))
spaced_push b (v ∷ u ∷ ws) w =
    ap (λ l. v ++ (b ∷ l)) (spaced_push b (u ∷ ws) w)
    ∙ ap (λ g. v ++ (b ∷ (join_with_byte b (u ∷ ws) ++ (g ++ w)))) (gap_some b (length ws) ∙ sym (gap_some b (suc (length ws))))
    ∙ sym (append_assoc v (b ∷ join_with_byte b (u ∷ ws)) (gap b (length (v ∷ u ∷ ws)) ++ w))

-- one more piece of a text that began as a
pub spaced_more : (b : ℕ) (ws : List (List ℕ)) (p : List ℕ) (i : ℕ) (a u v w : List ℕ) → length ws ≡ i → u ≡ a ++ join_with_byte b ws → v ≡ u ++ gap b i → w ≡ v ++ p → w ≡ a ++ join_with_byte b (ws ++ (p ∷ []))
spaced_more b ws p i a u v w long e g h =
    h ∙ ap (λ l. l ++ p) (g ∙ ap (λ l. l ++ gap b i) e) ∙ append_assoc (a ++ join_with_byte b ws) (gap b i) p ∙ append_assoc a (join_with_byte b ws) (gap b i ++ p)
    ∙ ap (λ l. a ++ l) (ap (λ k. join_with_byte b ws ++ (gap b k ++ p)) (sym long) ∙ sym (spaced_push b ws p))
