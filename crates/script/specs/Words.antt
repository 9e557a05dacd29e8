-- The words of a line and the numbers among them. Assumes nothing.
use Rattle.std.specs.Prelude.{◌≡◌, ℕ, ◌+◌, ◌-◌, ◌*◌, ◌≤◌, min, true, not, List, filter, length, fold, ◌==◌}
use Rattle.std.specs.List.{slice_split, list_all}
use Rattle.std.specs.Char.{is_ascii_whitespace, is_ascii_digit}

-- what stands between the blanks of a line
abbrev pub words_of : List ℕ → List (List ℕ)
words_of line = filter (λ w. not (length w == 0)) (slice_split is_ascii_whitespace line)

-- a word of digits
pub record IsNumber (w : List ℕ) : Type 0 where
  pub some : 1 ≤ length w
  pub digits : list_all is_ascii_digit w ≡ true

-- the number that some digits stand for
abbrev pub value : List ℕ → ℕ
value w = fold (λ n d. 10 * n + (d - 48)) 0 w

-- the number of a rule: every number above 65,535 counts as this one, which no rule of an open session has
abbrev pub rule_number : List ℕ → ℕ
rule_number w = min (value w) 65535

-- the number of a cell or of a place: every number above 255 counts as this one, which no cell and no place of an open session has
abbrev pub cell_number : List ℕ → ℕ
cell_number w = min (value w) 255
