-- How a rows book looks for support. Assumes nothing.
use Rattle.std.specs.Prelude.{ℕ, zero, suc, ◌*◌, ◌<◌, List, length, take, drop, ◌≢◌, slice_index}
use Rattle.bits.specs.Sets.{size}
use Rattle.network.specs.Tries.{Tried}

-- row j of some rows of n places each, which stand one after another
abbrev pub row_in : ℕ → List ℕ → ℕ → List ℕ
row_in n rows j = take n (drop (j * n) rows)

-- some row has an allowed place at each position, and is none of the first n of some rows
pub record Unstored (n : ℕ) (rows masks : List ℕ) : Type 0 where
  pub row : List ℕ
  pub tried : Tried masks row
  pub absent : (j : ℕ) → j < n → row_in (length masks) rows j ≢ row

-- how many ways there are to choose allowed places at the first n positions
abbrev pub rows_within : List ℕ → ℕ → ℕ
rows_within masks zero = 1
rows_within masks (suc n) = rows_within masks n * size (slice_index masks n)
