-- Lines that tell of a run: the parts of a line have one blank between them, and every line ends with a newline byte. Assumes nothing.
use Rattle.std.specs.Prelude.{ℕ, ◌/◌, ◌%◌, false, List, [], ◌∷◌, ◌++◌, codes}
use Rattle.std.specs.Int.{w64, to_be_bytes}
use Rattle.std.specs.List.{flat_map}
use Rattle.std.specs.Fmt.{digit_glyph}
use Rattle.formulas.specs.Tree.{numeral}
use Rattle.runs.specs.declared.line.Line.{Line}
use Rattle.runs.specs.Verdict.{number_of as verdict_number}

-- the two hex digits of a byte
abbrev pub byte_text : ℕ → List ℕ
byte_text b = digit_glyph false (b / 16) ∷ digit_glyph false (b % 16) ∷ []

-- a set of rules as 16 hex digits, the highest first
unfoldable pub set_text : ℕ → List ℕ
set_text s = flat_map byte_text (to_be_bytes w64 s)

-- log, the listed set, the used set and the verdict
abbrev pub log_line : Line → List ℕ
log_line l = codes "log " ++ (set_text l.listed ++ (32 ∷ (set_text l.used ++ (32 ∷ (numeral (verdict_number l.verdict) ++ (10 ∷ []))))))

-- a word and numbers
abbrev pub numbers_line : List ℕ → List ℕ → List ℕ
numbers_line word ns = word ++ (flat_map (λ n. 32 ∷ numeral n) ns ++ (10 ∷ []))
