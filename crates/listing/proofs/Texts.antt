-- The loops that write lines and rows: one more of them, and all of them. Assumes nothing.
use Rattle.std.proofs.Common.{◌≡◌, ℕ, ◌+◌, ◌<◌, ◌≤◌, List, [], ◌∷◌, ◌++◌, map, length, get_or, take, sym, ap, ◌∙◌, append_assoc, append-nil, arith}
use lib.ListN.{length-map}
use Rattle.std.specs.List.{range_with_len}
use Rattle.std.proofs.lemmas.List.FromFn.{map-range_with_len_more, length-map-range_with_len}
use Rattle.std.proofs.lemmas.List.{take_all, length-take-le, map_push}
use Rattle.text.proofs.Pieces.{front, gap, spaced_more}
use Rattle.listing.specs.Listing.{numbered, commas, row_text}

numbered_push : {X : Type 0} (f : ℕ → X → List ℕ) (n m : ℕ) (xs : List X) (x : X) → n + length xs ≡ m → numbered f n (xs ++ (x ∷ [])) ≡ numbered f n xs ++ f m x
numbered_push f n m [] x e = append-nil (f n x) ∙ (let z : n ≡ m = omega arith in ap (λ k. f k x) z)
numbered_push f n m (y ∷ xs) x e = ap (λ l. f n y ++ l) (numbered_push f (n + 1) m xs x (omega arith)) ∙ sym (append_assoc (f n y) (numbered f (n + 1) xs) (f m x))

-- one more piece of a text that began as a
module _ {X : Type 0} (xs : List X) (i : ℕ) (d x : X) (lt : i < length xs) (is : get_or xs i d ≡ x) (a u w : List ℕ) where
  pub numbered_more : (f : ℕ → X → List ℕ) → u ≡ a ++ numbered f 0 (take i xs) → w ≡ u ++ f i x → w ≡ a ++ numbered f 0 (take (i + 1) xs)
  numbered_more f e h =
      h ∙ ap (λ l. l ++ f i x) e ∙ append_assoc a (numbered f 0 (take i xs)) (f i x)
      ∙ ap (λ l. a ++ l) (sym (ap (numbered f 0) (front xs i d x lt is) ∙ numbered_push f 0 i (take i xs) x (omega (arith, length-take-le i xs (omega arith)))))

-- the text is whole
module _ {X : Type 0} (xs : List X) (i : ℕ) (end : length xs ≤ i) (a u : List ℕ) where
  pub numbered_whole : (f : ℕ → X → List ℕ) → u ≡ a ++ numbered f 0 (take i xs) → u ≡ a ++ numbered f 0 xs
  numbered_whole f e = e ∙ ap (λ l. a ++ numbered f 0 l) (take_all i xs end)

-- one more row
pub row_more : (g : ℕ → List ℕ) (i : ℕ) (a u v w : List ℕ) → u ≡ a ++ commas (map row_text (map g (range_with_len 0 i))) → v ≡ u ++ gap 44 i → w ≡ v ++ row_text (g i)
    → w ≡ a ++ commas (map row_text (map g (range_with_len 0 (i + 1))))
row_more g i a u v w e k h =
    let rs = map g (range_with_len 0 i) in
    spaced_more 44 (map row_text rs) (row_text (g i)) i a u v w (length-map rs row_text ∙ length-map-range_with_len g 0 i) e k h
    ∙ ap (λ l. a ++ commas l) (sym (ap (map row_text) (map-range_with_len_more g 0 i i (omega arith)) ∙ map_push row_text rs (g i)))
