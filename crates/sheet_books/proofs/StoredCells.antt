-- The cells that a formula names: known to the sheet, and different. Assumes nothing.
use Rattle.std.proofs.Common.{◌≡◌, ℕ, zero, suc, ◌<◌, ◌≤◌, false, cond, eqb, List, [], ◌∷◌, ◌++◌, length, get_or, sym, ◌∙◌, ⊎_elim, arith}
use Rattle.std.specs.List.{AllByRecursion}
use Rattle.std.proofs.lemmas.List.{get_or_append_left, get_or_push, length_push}
use Rattle.std.proofs.lemmas.Bool.{cases_lt, cond_both, both_ways, eq-eqb, or_left, or_parts}
use Rattle.bits.proofs.Lists.{each_append, each_push, each_at}
use Rattle.formulas.specs.declared.node.Side.{Side}
use Rattle.formulas.specs.declared.node.Side.TheVariants.{Number, Cell}
use Rattle.formulas.specs.Tree.{Condition, compares, negates, all, any, Conditions, one, more, KnownSide, Known, KnownAll, side_cells, mentions, list_mentions, among, noted, cells_of}

-- ---- known
module _ (n : ℕ) where
  abbrev Below : List ℕ → Type 0
  Below cs = AllByRecursion (λ c. c < n) cs

  side_below : (a : Side) → KnownSide n a → Below (side_cells a)
  side_below (Number z) k = tt
  side_below (Cell c h) k = (k.0, tt)

  mutual
    mentions_below : (c : Condition) → Known n c → Below (mentions c)
    mentions_below (compares a o b) k = each_append (λ c. c < n) (side_cells a) (side_cells b) (side_below a k.0) (side_below b k.1)
    mentions_below (negates c) k = mentions_below c k
    mentions_below (all cs) k = list_below cs k
    mentions_below (any cs) k = list_below cs k

    list_below : (cs : Conditions) → KnownAll n cs → Below (list_mentions cs)
    list_below (one c) k = mentions_below c k
    list_below (more c cs) k = each_append (λ c. c < n) (mentions c) (list_mentions cs) (mentions_below c k.0) (list_below cs k.1)

  noted_below : (seen cs : List ℕ) → Below seen → Below cs → Below (noted seen cs)
  noted_below seen [] h k = h
  noted_below seen (c ∷ cs) h k =
      noted_below (cond (among c seen) seen (seen ++ (c ∷ []))) cs
      (cond_both (among c seen) seen (seen ++ (c ∷ [])) Below (λ _. h) (λ _. each_push (λ c. c < n) seen c h k.0)) k.1

  pub cells_known : (c : Condition) → Known n c → (k : ℕ) → k < length (cells_of c) → get_or (cells_of c) k 0 < n
  cells_known c h k l = each_at (λ c. c < n) (cells_of c) 0 (noted_below [] (mentions c) tt (mentions_below c h)) k l

  pub cells_below : (c : Condition) → Known n c → AllByRecursion (λ x. x < n) (cells_of c)
  cells_below c h = noted_below [] (mentions c) tt (mentions_below c h)

-- ---- different
abbrev Apart : List ℕ → Type 0
Apart cs = (j k : ℕ) → j < k → k < length cs → get_or cs j 0 ≡ get_or cs k 0 → ⊥

not_among : (c : ℕ) (xs : List ℕ) → among c xs ≡ false → (k : ℕ) → k < length xs → get_or xs k 0 ≡ c → ⊥
not_among c [] f k h e = omega arith
not_among c (x ∷ xs) f zero h e = both_ways _ f (or_left (eqb c x) (among c xs) (eq-eqb c x (sym e)))
not_among c (x ∷ xs) f (suc k) h e = not_among c xs (or_parts (eqb c x) (among c xs) f).1 k (omega arith) e

push_apart : (cs : List ℕ) (c : ℕ) → Apart cs → among c cs ≡ false → Apart (cs ++ (c ∷ []))
push_apart cs c a f j k l h e =
    let n = length_push cs c in
    let j' : j < length cs = omega arith in
    let left : get_or (cs ++ (c ∷ [])) j 0 ≡ get_or cs j 0 = get_or_append_left cs (c ∷ []) 0 j j' in
    ⊎_elim
    (λ (b : k < length cs). a j k l b (sym left ∙ e ∙ get_or_append_left cs (c ∷ []) 0 k b))
    (λ (b : length cs ≤ k). not_among c cs f j j' (sym left ∙ e ∙ get_or_push cs c 0 k (omega arith)))
    (cases_lt k (length cs))

noted_apart : (seen cs : List ℕ) → Apart seen → Apart (noted seen cs)
noted_apart seen [] a = a
noted_apart seen (c ∷ cs) a =
    noted_apart (cond (among c seen) seen (seen ++ (c ∷ []))) cs
    (cond_both (among c seen) seen (seen ++ (c ∷ [])) Apart (λ _. a) (λ f. push_apart seen c a f))

pub cells_apart : (c : Condition) → Apart (cells_of c)
cells_apart c = noted_apart [] (mentions c) (λ j k l h e. omega arith)
