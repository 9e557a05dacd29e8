-- What the readers of a text promise each other: where a word ends, what is awaited at a place, and that no fault came before. Assumes nothing.
use Rattle.std.specs.Prelude.{◌≡◌, ℕ, ◌+◌, ◌<◌, ◌≤◌, Bool, true, ◌≢◌, List, [], ◌∷◌, ◌++◌, length, take, drop}
use Rattle.formulas.specs.declared.node.Shift.{Shift}
use Rattle.formulas.specs.declared.node.Shift.TheVariants.{Bare, Plus, Minus}
use Rattle.formulas.specs.declared.node.Side.{Side}
use Rattle.formulas.specs.declared.node.Side.TheVariants.{Number, Cell}
use Rattle.formulas.specs.declared.node.Relation.{Relation}
use Rattle.formulas.specs.declared.node.Relation.TheVariants.{Equal, NotEqual, Less, LessEqual, Greater, GreaterEqual}
use Rattle.formulas.specs.Tree.{Condition, compares, negates, all, any, Conditions, text, list_text, side_text, numeral}
use Rattle.formulas.specs.Faults.{next, Digit, NoDigitBefore, count, TooDeep, TooLarge}

-- w stands in s from one place up to another
pub record Spans (s : List ℕ) (at : ℕ) (w : List ℕ) (end : ℕ) : Type 0 where
  pub upto : end ≡ at + length w
  pub within : end ≤ length s
  pub said : drop at s ≡ w ++ drop end s

-- with the byte b next, a shift ends here and does not go on with b
abbrev pub EndsShift : Shift → ℕ → Type 0
EndsShift Bare b = (Digit b → ⊥) × (b ≢ 43) × (b ≢ 45)
EndsShift (Plus n) b = Digit b → ⊥
EndsShift (Minus n) b = Digit b → ⊥

-- the same of a side
abbrev pub EndsSide : Side → ℕ → Type 0
EndsSide (Number z) b = Digit b → ⊥
EndsSide (Cell c h) b = EndsShift h b

-- the same of a relation
abbrev pub EndsRelation : Relation → ℕ → Type 0
EndsRelation Equal b = Unit {0}
EndsRelation NotEqual b = Unit {0}
EndsRelation Less b = (b ≢ 61) × (b ≢ 62)
EndsRelation LessEqual b = Unit {0}
EndsRelation Greater b = b ≢ 61
EndsRelation GreaterEqual b = Unit {0}

-- the same of a condition
abbrev pub Ends : Condition → ℕ → Type 0
Ends (compares a o b) n = EndsSide b n
Ends (negates c) n = Unit {0}
Ends (all cs) n = Unit {0}
Ends (any cs) n = Unit {0}

-- no fault 7 up to the place k, and no fault 8 before it
pub record Clear (cells : ℕ) (s : List ℕ) (k : ℕ) : Type 0 where
  pub deep : (j : ℕ) → TooDeep s j → k < j
  pub large : (j : ℕ) → TooLarge cells s j → k ≤ j

-- what can follow a condition inside brackets, the innermost first; true is a bracket with a list
pub data Follows : List Bool → List ℕ → Type 0 where
  ends : Follows [] []
  closes : {b : Bool} {o : List Bool} {t : List ℕ} → Follows o t → Follows (b ∷ o) (41 ∷ t)
  goes_on : {o : List Bool} {t : List ℕ} (cs : Conditions) → Follows o t → Follows (true ∷ o) (44 ∷ (list_text cs ++ (41 ∷ t)))

-- the bytes p do not end with a digit
abbrev pub Fresh : List ℕ → Type 0
Fresh p = (q : List ℕ) (b : ℕ) → p ≡ q ++ (b ∷ []) → Digit b → ⊥

-- any condition can come after the bytes p, and whatever formula begins with p goes on with one
pub record Awaits (o : List Bool) (p : List ℕ) : Type 0 where
  pub fresh : Fresh p
  pub comes : (d : Condition) (u : List ℕ) → text d ≡ p ++ u → (c : Condition) × (t : List ℕ) × (u ≡ text c ++ t) × Follows o t
  pub room : (c : Condition) → (d : Condition) × (t : List ℕ) × (text d ≡ p ++ (text c ++ t))

-- the same of a list and the bracket that closes it
pub record AwaitsList (o : List Bool) (p : List ℕ) : Type 0 where
  pub fresh : Fresh p
  pub comes : (d : Condition) (u : List ℕ) → text d ≡ p ++ u → (cs : Conditions) × (t : List ℕ) × (u ≡ list_text cs ++ (41 ∷ t)) × Follows o t
  pub room : (cs : Conditions) → (d : Condition) × (t : List ℕ) × (text d ≡ p ++ (list_text cs ++ (41 ∷ t)))

-- the same of a side, at a place of s and with the byte that comes there
pub record AwaitsSide (s : List ℕ) (at : ℕ) : Type 0 where
  pub fresh : NoDigitBefore s at
  pub comes : (d : Condition) (u : List ℕ) → text d ≡ take at s ++ u → next u ≡ next (drop at s) → (a : Side) × (t : List ℕ) × (u ≡ side_text a ++ t) × EndsShift Bare (next t)
  pub room : (a : Side) → (d : Condition) × (t : List ℕ) × (text d ≡ take at s ++ (side_text a ++ t))

-- the same of digits for a number of at least `low`
pub record AwaitsDigits (low : ℕ) (s : List ℕ) (at : ℕ) : Type 0 where
  pub comes : (d : Condition) (u : List ℕ) → text d ≡ take at s ++ u → next u ≡ next (drop at s) → (n : ℕ) × (t : List ℕ) × (low ≤ n) × (u ≡ numeral n ++ t) × (Digit (next t) → ⊥)
  pub room : (n : ℕ) → low ≤ n → (d : Condition) × (t : List ℕ) × (text d ≡ take at s ++ (numeral n ++ t))

-- after the first `at` bytes the level is l
pub record Deep (s : List ℕ) (at l : ℕ) : Type 0 where
  pub deep : count 40 (take at s) + 1 ≡ count 41 (take at s) + l
