-- What a search wants of its sets and of its work buffer. Assumes nothing.
use Rattle.std.specs.Prelude.{ℕ, ◌+◌, ◌*◌, ◌≤◌, cond, List, [], ◌∷◌, length, nat_lt}
use Rattle.bits.specs.Sets.{size}
use Rattle.runs.specs.Law.{Full}

-- how many cells are open
unfoldable pub opens : List ℕ → ℕ
opens [] = 0
opens (places ∷ sets) = cond (nat_lt 1 (size places)) 1 0 + opens sets

-- there are at most 64 cells and some place at each, and the work buffer has room for all sets once for each open cell
pub record Able (sets : List ℕ) (work : ℕ) : Type 0 where
  pub few : length sets ≤ 64
  pub full : Full sets
  pub room : opens sets * length sets ≤ work
