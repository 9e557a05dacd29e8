-- What a rows book stores, which stores are well formed, and what they mean. Assumes nothing.
use Rattle.std.specs.Prelude.{◌≡◌, ℕ, zero, suc, ◌+◌, ◌*◌, ◌<◌, ◌≤◌, Bool, false, not, ◌&&◌, ◌||◌, List, [], map, length, ◌==◌, ◌≢◌, slice_index, slice_index_or}
use Rattle.std.specs.List.{range_with_len}
use Rattle.std.specs.Str.{bytes_eq}
use Rattle.network.specs.Cells.{GoodCells}
use Rattle.network.specs.Book.{Rule, BookMeaning}
use Rattle.rows.specs.declared.rule.Kind.{Kind}
use Rattle.rows.specs.declared.rule.Kind.TheVariants.{Permitted, Forbidden}
use Rattle.rows.specs.declared.rule.RowsRule.{RowsRule}

-- what stands for a missing rule: it has no cells, and stores no row
abbrev pub no_rows : RowsRule
no_rows = record { kind = Permitted; width = 0; cells = []; start = 0; count = 0 }

-- the cells of the rule are good, and its rows end within so many bytes
pub record GoodRule (rule : RowsRule) (bytes : ℕ) : Type 0 where
  pub good : GoodCells rule.width rule.cells
  pub inside : rule.start + rule.count * rule.width ≤ bytes

-- at most 65,535 rules, each of them good
pub record WellFormed (rules : List RowsRule) (bytes : List ℕ) : Type 0 where
  pub few : length rules ≤ 65535
  pub each : (r : ℕ) → r < length rules → GoodRule (slice_index_or rules r no_rows) (length bytes)

-- the place that row j of a rule has at position k: the rows stand one after another, one byte a place
abbrev pub place_at : List ℕ → RowsRule → ℕ → ℕ → ℕ
place_at bytes rule j k = slice_index bytes (rule.start + j * rule.width + k)

-- row j of a rule
abbrev pub row_at : List ℕ → RowsRule → ℕ → List ℕ
row_at bytes rule j = map (place_at bytes rule j) (range_with_len 0 rule.width)

-- the row is among the first n rows of the rule
abbrev pub among : List ℕ → RowsRule → List ℕ → ℕ → Bool
among bytes rule row zero = false
among bytes rule row (suc n) = bytes_eq (row_at bytes rule n) row || among bytes rule row n

-- the rule stores the row
abbrev pub stores : List ℕ → RowsRule → List ℕ → Bool
stores bytes rule row = among bytes rule row rule.count

-- where a rule's rows are the permitted ones, it permits just the rows that it stores; where they are the forbidden ones, just the other rows of its width
abbrev pub Permits : Kind → List ℕ → RowsRule → List ℕ → Type 0
Permits Permitted bytes rule row = (j : ℕ) × (j < rule.count) × (row_at bytes rule j ≡ row)
Permits Forbidden bytes rule row = (length row ≡ rule.width) × ((j : ℕ) → j < rule.count → row_at bytes rule j ≢ row)

-- the same, as a test
abbrev pub permits_of : Kind → List ℕ → RowsRule → List ℕ → Bool
permits_of Permitted bytes rule row = stores bytes rule row
permits_of Forbidden bytes rule row = length row == rule.width && not (stores bytes rule row)

-- what a stored rule means
abbrev pub rule_of : List ℕ → RowsRule → Rule
rule_of bytes rule = record {
  cells = map (λ k. slice_index rule.cells k) (range_with_len 0 rule.width);
  permits = permits_of rule.kind bytes rule;
}

-- what the stores mean: a rule for each stored one, in order
abbrev pub rows_book : List RowsRule → List ℕ → BookMeaning
rows_book rules bytes = record {
  count = length rules;
  rule = λ r. rule_of bytes (slice_index_or rules r no_rows);
}
