-- The rows that a search tries: an allowed place at each position. Assumes nothing.
use Rattle.std.specs.Prelude.{◌≡◌, ℕ, ◌<◌, ◌≤◌, ◌↔◌, List, length, slice_index}
use Rattle.bits.specs.Sets.{In}
use Rattle.network.specs.Book.{Remains}

-- place v is in the mask of the position k
abbrev pub Allowed : List ℕ → ℕ → ℕ → Type 0
Allowed masks k v = (v < 64) × In (slice_index masks k) v

-- the masks of four positions allow what remains at the cells there, and at position i place v alone
abbrev pub Allows : List ℕ → ℕ → ℕ → List ℕ → List ℕ → Type 0
Allows cells i v sets masks =
    (k : ℕ) → k < 4 → (w : ℕ) → Allowed masks k w ↔ Remains sets (slice_index cells k) w × (k ≡ i → w ≡ v)

-- a row with a place for each mask, which begins with the first n of these places and has allowed places from there on
pub record GoesOn (masks places : List ℕ) (n : ℕ) (row : List ℕ) : Type 0 where
  pub wide : length row ≡ length masks
  pub begins : (k : ℕ) → k < n → slice_index row k ≡ slice_index places k
  pub each : (k : ℕ) → n ≤ k → k < length masks → Allowed masks k (slice_index row k)

-- a row with an allowed place for each mask
abbrev pub Tried : List ℕ → List ℕ → Type 0
Tried masks row = (length row ≡ length masks) × ((k : ℕ) → k < length masks → Allowed masks k (slice_index row k))
