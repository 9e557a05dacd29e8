-- What can be wrong with a formula's text, and which fault is the first. Assumes nothing.
use Rattle.std.specs.Prelude.{◌≡◌, ℕ, ◌+◌, ◌-◌, ◌<◌, ◌≤◌, cond, ◌⊎◌, List, [], ◌∷◌, ◌++◌, length, take, drop, ◌==◌, ◌≢◌}
use Rattle.formulas.specs.declared.fault.Flaw.{Flaw}
use Rattle.formulas.specs.declared.fault.Flaw.TheVariants.{Grammar, Level, Range, Cells}
use Rattle.formulas.specs.Tree.{Condition, text, numeral, levels, Known, cells_of}

-- the number of each fault
abbrev pub number : Flaw → ℕ
number Grammar = 6
number Level = 7
number Range = 8
number Cells = 9

-- the next byte, and 256 where the text ends
abbrev pub next : List ℕ → ℕ
next [] = 256
next (b ∷ s) = b

-- the byte is a digit, 0 to 9
abbrev pub Digit : ℕ → Type 0
Digit b = (48 ≤ b) × (b ≤ 57)

-- some formula's text begins with these bytes, whatever its levels, cells and numbers
pub record Begins (p : List ℕ) : Type 0 where
  pub formula : Condition
  pub rest : List ℕ
  pub writes : text formula ≡ p ++ rest

-- 6: the first k bytes begin a formula, and none goes on from there with the byte that comes next, or by ending where the text ends
pub record Outside (s : List ℕ) (k : ℕ) : Type 0 where
  pub within : k ≤ length s
  pub begins : Begins (take k s)
  pub none : (c : Condition) (u : List ℕ) → text c ≡ take k s ++ u → next u ≢ next (drop k s)

-- how often a byte stands in a text
abbrev pub count : ℕ → List ℕ → ℕ
count b [] = 0
count b (x ∷ s) = cond (x == b) 1 0 + count b s

-- the level after some bytes: one more than the brackets opened and not closed
abbrev pub level : List ℕ → ℕ
level p = 1 + count 40 p - count 41 p

-- 7: the first k bytes begin a formula, and the last of them is a bracket that opens level 17
pub record TooDeep (s : List ℕ) (k : ℕ) : Type 0 where
  pub before : ℕ
  pub after : k ≡ before + 1
  pub bracket : next (drop before s) ≡ 40
  pub begins : Begins (take k s)
  pub full : level (take before s) ≡ 16

-- no digit stands right before the place k
abbrev pub NoDigitBefore : List ℕ → ℕ → Type 0
NoDigitBefore s k = (j : ℕ) → k ≡ j + 1 → Digit (next (drop j s)) → ⊥

-- a cell that is not there, as C and its number; or digits above 1,000,000, with a number's minus, if any, and no digit right before them
pub data Oversize (cells : ℕ) (s : List ℕ) (k : ℕ) : List ℕ → Type 0 where
  cell : {n : ℕ} → cells ≤ n → Oversize cells s k (67 ∷ numeral n)
  digits : {n : ℕ} → 1000000 < n → NoDigitBefore s k → Oversize cells s k (numeral n)
  negative : {n : ℕ} → 1000000 < n → NoDigitBefore s k → Oversize cells s k (45 ∷ numeral n)

-- 8: such a token stands after the first k bytes, and the bytes up to its end begin a formula
pub record TooLarge (cells : ℕ) (s : List ℕ) (k : ℕ) : Type 0 where
  pub token : List ℕ
  pub large : Oversize cells s k token
  pub stands : drop k s ≡ token ++ drop (k + length token) s
  pub begins : Begins (take (k + length token) s)

-- 9: a formula without a cell or with more than four different ones; its offset is the first byte
pub record Miscounted (s : List ℕ) (k : ℕ) : Type 0 where
  pub first : k ≡ 0
  pub formula : Condition
  pub said : s ≡ text formula
  pub wrong : (length (cells_of formula) ≡ 0) ⊎ (4 < length (cells_of formula))

-- the text has this fault at the offset k
abbrev pub Fault : ℕ → List ℕ → Flaw → ℕ → Type 0
Fault cells s Grammar k = Outside s k
Fault cells s Level k = TooDeep s k
Fault cells s Range k = TooLarge cells s k
Fault cells s Cells k = Miscounted s k

-- a fault at k comes before another at j, or is the same: they come in the order of their offsets, at one offset 7 is the first, and 9 comes after all
-- others, since it is found after the last byte
abbrev pub Precedes : Flaw → ℕ → Flaw → ℕ → Type 0
Precedes Grammar k Grammar j = k ≤ j
Precedes Grammar k Level j = k < j
Precedes Grammar k Range j = k < j
Precedes Grammar k Cells j = Unit {0}
Precedes Level k Grammar j = k ≤ j
Precedes Level k Level j = k ≤ j
Precedes Level k Range j = k ≤ j
Precedes Level k Cells j = Unit {0}
Precedes Range k Grammar j = k < j
Precedes Range k Level j = k < j
Precedes Range k Range j = k ≤ j
Precedes Range k Cells j = Unit {0}
Precedes Cells k Grammar j = ⊥
Precedes Cells k Level j = ⊥
Precedes Cells k Range j = ⊥
Precedes Cells k Cells j = k ≤ j

-- the text's first fault
pub record First (cells : ℕ) (s : List ℕ) (f : Flaw) (k : ℕ) : Type 0 where
  pub here : Fault cells s f k
  pub first : (g : Flaw) (j : ℕ) → Fault cells s g j → Precedes f k g j

-- the text is that of the condition, under the limits: its cells and digits are known, 16 levels at most, and 1 to 4 different cells
pub record Accepted (cells : ℕ) (s : List ℕ) (c : Condition) : Type 0 where
  pub said : s ≡ text c
  pub known : Known cells c
  pub shallow : levels c ≤ 16
  pub some : 1 ≤ length (cells_of c)
  pub few : length (cells_of c) ≤ 4
