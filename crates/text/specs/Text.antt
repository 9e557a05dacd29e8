-- Lines that several texts have. Assumes nothing.
use Rattle.std.specs.Prelude.{ℕ, List, [], ◌∷◌, ◌++◌, codes}
use Rattle.formulas.specs.Tree.{numeral}

-- FAULT, the number and the offset, one blank apart, and a newline
abbrev pub fault_text : ℕ → ℕ → List ℕ
fault_text n k = codes "FAULT " ++ (numeral n ++ (32 ∷ (numeral k ++ (10 ∷ []))))
