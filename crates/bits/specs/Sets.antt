-- Sets of numbers below 64, of places or of rules, as 64-bit masks: bit v stands for v. Assumes nothing.
use Rattle.std.specs.Prelude.{◌≡◌, ℕ, zero, suc, ◌/◌, ◌%◌, ◌^◌, ◌<◌, Bool, cond, List, [], ◌∷◌, ◌++◌, length, ◌==◌, bit_or}

-- v is in the set s
abbrev pub In : ℕ → ℕ → Type 0
In s v = s / 2 ^ v % 2 ≡ 1

-- the same, as a test
abbrev pub in? : ℕ → ℕ → Bool
in? s v = s / 2 ^ v % 2 == 1

-- all of a is in b
abbrev pub Subset : ℕ → ℕ → Type 0
Subset a b = (v : ℕ) → In a v → In b v

-- v is the lowest of the set
pub record Lowest (s v : ℕ) : Type 0 where
  pub there : In s v
  pub none : (w : ℕ) → w < v → In s w → ⊥

-- the members of a set that are below n, rising
unfoldable pub below : ℕ → ℕ → List ℕ
below zero s = []
below (suc n) s = below n s ++ cond (in? s n) (n ∷ []) []

-- the members of a set, rising
unfoldable pub members : ℕ → List ℕ
members s = below 64 s

-- how many there are
abbrev pub size : ℕ → ℕ
size s = length (members s)

-- the set of some numbers
unfoldable pub set_of : List ℕ → ℕ
set_of [] = 0
set_of (v ∷ vs) = bit_or (set_of vs) (2 ^ v)
