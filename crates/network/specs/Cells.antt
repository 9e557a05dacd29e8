-- The cells that a rule may have, and the places of their lists. Assumes nothing.
use Rattle.std.specs.Prelude.{ℕ, ◌<◌, ◌≤◌, List, length, ◌≢◌, slice_index}

-- the first `width` of the stored cells are 1 to 4 different cells, numbered below 64
pub record GoodCells (width : ℕ) (cells : List ℕ) : Type 0 where
  pub some : 1 ≤ width
  pub few : width ≤ 4
  pub small : (k : ℕ) → k < width → slice_index cells k < 64
  pub apart : (j k : ℕ) → j < k → k < width → slice_index cells j ≢ slice_index cells k

-- each place of a row is below the length of its cell's list, where `lengths` has the length of each
abbrev pub Listed : List ℕ → List ℕ → List ℕ → Type 0
Listed lengths cells row = (k : ℕ) → k < length cells → slice_index row k < slice_index lengths (slice_index cells k)
