-- The cells' lists, and how they are kept. Assumes nothing.
use Rattle.std.specs.Prelude.{◌≡◌, ℕ, ◌-◌, ◌<◌, ◌≤◌, List, [], ◌∷◌, ◌++◌, length, replicate, ℤ, pos, negsuc, ◌≤ℤ◌, ◌≢◌, slice_index_or}

-- a list can go on with a number: there is room, the number is from -1,000,000 to 1,000,000, and it is new
pub record Follows (xs : List ℤ) (z : ℤ) : Type 0 where
  pub room : length xs < 64
  pub low : negsuc 999999 ≤ℤ z
  pub high : z ≤ℤ pos 1000000
  pub new : (k : ℕ) → k < length xs → slice_index_or xs k (pos 0) ≢ z

-- each number follows those before it
pub data Listed : List ℤ → Type 0 where
  none : Listed []
  more : {xs : List ℤ} {z : ℤ} → Listed xs → Follows xs z → Listed (xs ++ (z ∷ []))

-- a cell's list has a number at least
pub record IsList (xs : List ℤ) : Type 0 where
  pub some : 1 ≤ length xs
  pub listed : Listed xs

-- one more list: its length, and its numbers with zeros up to 64 places
pub record Adds (xs : List ℤ) (lengths : List ℕ) (numbers : List ℤ) (lengths' : List ℕ) (numbers' : List ℤ) : Type 0 where
  pub counts : lengths' ≡ lengths ++ (length xs ∷ [])
  pub keeps : numbers' ≡ numbers ++ (xs ++ replicate (64 - length xs) (pos 0))
