-- Stores that begin with some things and are blank after them. Assumes nothing.
use Rattle.std.proofs.Common.{◌≡◌, ℕ, suc, ◌+◌, ◌-◌, ◌<◌, ◌≤◌, List, [], ◌∷◌, ◌++◌, length, take, drop, set, replicate, sym, refl, ap, ◌∙◌, append_assoc, append-nil, arith, length-append, length-drop}
use borrow.Rule.Slice.PartMut.{put_mid}
use lib.ListN.{length-replicate, replicate-append-replicate}
use Rattle.std.proofs.lemmas.List.{take_at, drop_at, drop-drop, set_split, take-replicate, drop-replicate, drop_all, take_rest}
use Rattle.std.proofs.Math.Seq.{take-append-add, drop-append-add}
use Rattle.sheets.specs.Stored.{filled}

module _ {X : Type 0} (b : X) (n : ℕ) where
  pub length_filled : (xs : List X) → length xs ≤ n → length (filled b n xs) ≡ n
  length_filled xs h = length-append xs (replicate (n - length xs) b) ∙ omega (arith, length-replicate (n - length xs) b)

  pub filled_none : filled b n [] ≡ replicate n b
  filled_none = let all : n - 0 ≡ n = omega arith in ap (λ k. replicate k b) all

  -- what lies past the first things
  pub drop_filled : (xs : List X) (k : ℕ) → drop (length xs + k) (filled b n xs) ≡ replicate (n - length xs - k) b
  drop_filled xs k = drop-append-add xs (replicate (n - length xs) b) k ∙ drop-replicate k (n - length xs) b

  -- some more things written after the first ones
  pub filled_block : (xs ys : List X) → length xs + length ys ≤ n → take (length xs) (filled b n xs) ++ (ys ++ drop (length xs + length ys) (filled b n xs)) ≡ filled b n (xs ++ ys)
  filled_block xs ys h =
      let rest : n - length xs - length ys ≡ n - length (xs ++ ys) = omega (arith, length-append xs ys) in
      ap (λ l. l ++ (ys ++ drop (length xs + length ys) (filled b n xs))) (take_at xs (replicate (n - length xs) b) (length xs) refl)
      ∙ ap (λ l. xs ++ (ys ++ l)) (drop_filled xs (length ys))
      ∙ sym (append_assoc xs ys (replicate (n - length xs - length ys) b))
      ∙ ap (λ k. (xs ++ ys) ++ replicate k b) rest

  -- one more
  pub filled_more : (xs : List X) (y : X) (i : ℕ) → i ≡ length xs → length xs < n → set (filled b n xs) i y ≡ filled b n (xs ++ (y ∷ []))
  filled_more xs y i e h =
      let next : suc (length xs) ≡ length xs + 1 = omega arith in
      ap (λ j. set (filled b n xs) j y) e
      ∙ set_split (filled b n xs) (length xs) y (omega (arith, length_filled xs (omega arith)))
      ∙ ap (λ k. take (length xs) (filled b n xs) ++ (y ∷ drop k (filled b n xs))) next
      ∙ filled_block xs (y ∷ []) (omega arith)

  -- the first part of such a store, and a store whose first part is written anew
  pub take_filled : (m : ℕ) (xs : List X) → length xs ≤ m → m ≤ n → take m (filled b n xs) ≡ filled b m xs
  take_filled m xs h l =
      let parts : m ≡ length xs + (m - length xs) = omega arith in
      ap (λ k. take k (filled b n xs)) parts
      ∙ take-append-add xs (replicate (n - length xs) b) (m - length xs)
      ∙ ap (λ r. xs ++ r) (take-replicate (m - length xs) (n - length xs) b (omega arith))

  pub filled_front : (m : ℕ) (xs ys : List X) → length xs ≤ m → length ys ≤ m → m ≤ n → filled b m ys ++ drop m (filled b n xs) ≡ filled b n ys
  filled_front m xs ys h g l =
      let parts : m ≡ length xs + (m - length xs) = omega arith in
      let rest : m - length ys + (n - length xs - (m - length xs)) ≡ n - length ys = omega arith in
      ap (λ r. filled b m ys ++ r) (ap (λ k. drop k (filled b n xs)) parts ∙ drop_filled xs (m - length xs))
      ∙ append_assoc ys (replicate (m - length ys) b) (replicate (n - length xs - (m - length xs)) b)
      ∙ ap (λ r. ys ++ r) (replicate-append-replicate (m - length ys) (n - length xs - (m - length xs)) b ∙ ap (λ k. replicate k b) rest)

  -- a part of the blank rest
  pub blank_part : (xs : List X) (k : ℕ) → length xs + k ≤ n → take k (drop (length xs) (filled b n xs)) ≡ replicate k b
  blank_part xs k h =
      ap (take k) (drop_at xs (replicate (n - length xs) b) (length xs) refl)
      ∙ take-replicate k (n - length xs) b (omega arith)

-- writes to a part of such a store, as the checker shows them: c is what it held, and part what the part holds now
module _ {X : Type 0} (b : X) (n : ℕ) (xs ys c part : List X) (from : ℕ) (is : c ≡ filled b n xs) (here : from ≡ length xs) where
  written : part ≡ ys → length xs + length ys ≤ n → take from c ++ (part ++ drop (from + length ys) c) ≡ filled b n (xs ++ ys)
  written new room = (λ i. take (here i) (is i) ++ (new i ++ drop (here i + length ys) (is i))) ∙ filled_block b n xs ys room

  pub block : (k : ℕ) → k ≡ length ys → part ≡ ys → length xs + length ys ≤ n → put_mid from k c part ≡ filled b n (xs ++ ys)
  block k size new room =
      ap (λ l. take from c ++ (part ++ l)) (ap (λ j. drop j (drop from c)) size ∙ drop-drop (length ys) from c)
      ∙ written new room

  pub rest_block : part ≡ ys ++ drop (length ys) (take (length c - from) (drop from c)) → length xs + length ys ≤ n → put_mid from (length c - from) c part ≡ filled b n (xs ++ ys)
  rest_block new room =
      let past : length (drop from c) ≤ length c - from = omega (arith, length-drop from c) in
      ap (λ l. take from c ++ (part ++ l)) (drop_all (length c - from) (drop from c) past)
      ∙ ap (λ l. take from c ++ l) (append-nil part)
      ∙ ap (λ l. take from c ++ l) (new ∙ ap (λ l. ys ++ l) (ap (drop (length ys)) (take_rest c from) ∙ drop-drop (length ys) from c))
      ∙ (λ i. take (here i) (is i) ++ (ys ++ drop (here i + length ys) (is i)))
      ∙ filled_block b n xs ys room

  pub front_block : (m : ℕ) → part ≡ take from (take m c) ++ (ys ++ drop (from + length ys) (take m c)) → length xs + length ys ≤ m → m ≤ n → part ++ drop m c ≡ filled b n (xs ++ ys)
  front_block m new room le =
      let front : take m c ≡ filled b m xs = ap (take m) is ∙ take_filled b n m xs (omega arith) le in
      (λ i. (new ∙ (λ j. take (here j) (front j) ++ (ys ++ drop (here j + length ys) (front j))) ∙ filled_block b m xs ys room) i ++ drop m (is i))
      ∙ filled_front b n m xs (xs ++ ys) (omega arith) (omega (arith, length-append xs ys)) le
