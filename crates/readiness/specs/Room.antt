-- The buffers of a run. Assumes nothing.
use Rattle.std.specs.Prelude.{◌≡◌, ℕ, ◌≤◌, List, length}

-- a weight for each of 64 rules, the work buffer, and a set for each cell
pub record Room (cells : ℕ) (weights work sets : List ℕ) : Type 0 where
  pub weighed : 64 ≤ length weights
  pub free : 4096 ≤ length work
  pub same : length sets ≡ cells
