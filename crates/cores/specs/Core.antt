-- What a core is, and in how few lines it is found. Throughout, Fits a says that some filling meets the rules of the set a. Assumes nothing.
use Rattle.std.specs.Prelude.{◌≡◌, ℕ, ◌+◌, ◌-◌, ◌*◌, ◌^◌, ◌≤◌, List, length}
use Rattle.std.specs.List.{AllByRecursion}
use Rattle.bits.specs.Sets.{In, Subset, size}
use Rattle.runs.specs.declared.line.Line.{Line}
use Rattle.runs.specs.Law.{Right}

-- a core of the rules that are on: no filling meets all of its rules, and without any single one of them some filling does
pub record Core (Fits : ℕ → Type 0) (on core : ℕ) : Type 0 where
  pub among : Subset core on
  pub clash : Fits core → ⊥
  pub needed : (r : ℕ) → In core r → Fits (core - 2 ^ r)

-- at most e + 2 + k * L lines for e rules that are on and a core of k, for every L with e ≤ 2 ^ L: so for the least such L, and then it holds of any larger one
abbrev pub Short : ℕ → ℕ → ℕ → Type 0
Short e k lines = (L : ℕ) → e ≤ 2 ^ L → lines ≤ e + 2 + k * L

-- what a Fit comes to: what its first run left, of the type O, or a core
pub data Outcome (O : Type 0) : Type 0 where
  left : O → Outcome O
  core : ℕ → Outcome O

-- a Fit ends as its outcome says: with one line, and some filling meets the rules that are on; or none does, and there is a core, in few lines
abbrev pub Ends : {O : Type 0} → (ℕ → Type 0) → ℕ → ℕ → Outcome O → Type 0
Ends Fits on lines (left o) = Fits on × (lines ≡ 1)
Ends Fits on lines (core c) = (Fits on → ⊥) × Core Fits on c × Short (size on) (size c) lines

-- every line is right, and the Fit ends as its outcome says
pub record RightFit {O : Type 0} (Fits : ℕ → Type 0) (on : ℕ) (ls : List Line) (out : Outcome O) : Type 0 where
  pub lines : AllByRecursion (Right Fits) ls
  pub ends : Ends Fits on (length ls) out
