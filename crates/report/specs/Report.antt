-- The text that tells a Fit's answer: the parts of a line have one blank between them, and every line ends with a newline byte. Assumes nothing.
use Rattle.std.specs.Prelude.{ℕ, List, [], ◌∷◌, ◌++◌, ℤ, codes}
use Rattle.std.specs.List.{range_with_len, flat_map}
use Rattle.bits.specs.Sets.{members}
use Rattle.formulas.specs.Tree.{numeral, number_text}

-- C, the cell's number, =, and a number
abbrev pub cell_line : ℕ → ℤ → List ℕ
cell_line c z = 67 ∷ (numeral c ++ (61 ∷ (number_text z ++ (10 ∷ []))))

-- FITS and the number of lines, then a line for each cell, which has the number that f gives
abbrev pub fits_text : ℕ → ℕ → (ℕ → ℤ) → List ℕ
fits_text lines cells f = codes "FITS " ++ (numeral lines ++ (10 ∷ flat_map (λ c. cell_line c (f c)) (range_with_len 0 cells)))

-- rule and its number
abbrev pub rule_line : ℕ → List ℕ
rule_line r = codes "rule " ++ (numeral r ++ (10 ∷ []))

-- CLASH and the number of lines, then a line for each rule of the core, rising
abbrev pub clash_text : ℕ → ℕ → List ℕ
clash_text lines core = codes "CLASH " ++ (numeral lines ++ (10 ∷ flat_map rule_line (members core)))
