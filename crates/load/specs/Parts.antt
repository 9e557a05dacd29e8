-- The parts of a rows rule's content. Assumes nothing.
use Rattle.std.specs.Prelude.{◌≡◌, ℕ, ◌<◌, ◌≤◌, List, ◌∷◌, ◌++◌, length, ◌≢◌, slice_index}
use Rattle.rows.specs.declared.rule.Kind.{Kind}
use Rattle.sheets.specs.Sheet.{kind_byte}

-- each cell is below a count
abbrev pub Known : List ℕ → ℕ → Type 0
Known cells count = (k : ℕ) → k < length cells → slice_index cells k < count

-- a content begins with a kind, a width and that many good cells
pub record Splits (content : List ℕ) (count : ℕ) (kind : Kind) (cells rest : List ℕ) : Type 0 where
  pub said : content ≡ kind_byte kind ∷ length cells ∷ (cells ++ rest)
  pub some : 1 ≤ length cells
  pub few : length cells ≤ 4
  pub known : Known cells count
  pub apart : (j k : ℕ) → j < k → k < length cells → slice_index cells j ≢ slice_index cells k
