-- Formulas as trees, and the text of each, as the codes of its characters. The grammar is canonical: a tree has one text, and a text at most one tree. Assumes nothing.
use Rattle.std.specs.Prelude.{ℕ, suc, ◌+◌, ◌<◌, ◌≤◌, max, Bool, cond, List, [], ◌∷◌, ◌++◌, map, ℤ, pos, negsuc, ◌==◌}
use Rattle.std.specs.List.{list_any}
use Rattle.std.specs.Int.Digits.{digits_of}
use Rattle.formulas.specs.declared.node.Shift.{Shift}
use Rattle.formulas.specs.declared.node.Shift.TheVariants.{Bare, Plus, Minus}
use Rattle.formulas.specs.declared.node.Side.{Side}
use Rattle.formulas.specs.declared.node.Side.TheVariants.{Number, Cell}
use Rattle.formulas.specs.declared.node.Relation.{Relation}
use Rattle.formulas.specs.declared.node.Relation.TheVariants.{Equal, NotEqual, Less, LessEqual, Greater, GreaterEqual}

mutual
  -- side relation side, NOT(condition), AND(list) or OR(list)
  pub data Condition : Type 0 where
    compares : Side → Relation → Side → Condition
    negates : Condition → Condition
    all : Conditions → Condition
    any : Conditions → Condition

  -- a condition, or a condition, a comma and a list
  pub data Conditions : Type 0 where
    one : Condition → Conditions
    more : Condition → Conditions → Conditions

-- a number's digits, without a leading zero
unfoldable pub numeral : ℕ → List ℕ
numeral n = cond (n == 0) (48 ∷ []) (map (λ d. 48 + d) (digits_of 10 n))

-- digits, or a minus and digits other than 0
abbrev pub number_text : ℤ → List ℕ
number_text (pos n) = numeral n
number_text (negsuc n) = 45 ∷ numeral (suc n)

-- nothing; + and digits; or - and digits
abbrev pub shift_text : Shift → List ℕ
shift_text Bare = []
shift_text (Plus n) = 43 ∷ numeral n
shift_text (Minus n) = 45 ∷ numeral n

-- a number, or C, the cell's number and what is added or taken away
abbrev pub side_text : Side → List ℕ
side_text (Number z) = number_text z
side_text (Cell c h) = 67 ∷ (numeral c ++ shift_text h)

-- =, <>, <, <=, > or >=
abbrev pub relation_text : Relation → List ℕ
relation_text Equal = 61 ∷ []
relation_text NotEqual = 60 ∷ 62 ∷ []
relation_text Less = 60 ∷ []
relation_text LessEqual = 60 ∷ 61 ∷ []
relation_text Greater = 62 ∷ []
relation_text GreaterEqual = 62 ∷ 61 ∷ []

-- NOT(
abbrev pub not_word : List ℕ
not_word = 78 ∷ 79 ∷ 84 ∷ 40 ∷ []

-- AND(
abbrev pub and_word : List ℕ
and_word = 65 ∷ 78 ∷ 68 ∷ 40 ∷ []

-- OR(
abbrev pub or_word : List ℕ
or_word = 79 ∷ 82 ∷ 40 ∷ []

-- the text of a condition
abbrev mutual
  pub text : Condition → List ℕ
  text (compares a o b) = side_text a ++ (relation_text o ++ side_text b)
  text (negates c) = not_word ++ (text c ++ (41 ∷ []))
  text (all cs) = and_word ++ (list_text cs ++ (41 ∷ []))
  text (any cs) = or_word ++ (list_text cs ++ (41 ∷ []))

  -- the text of a list: its conditions with a comma between them
  pub list_text : Conditions → List ℕ
  list_text (one c) = text c
  list_text (more c cs) = text c ++ (44 ∷ list_text cs)

-- how many levels of brackets a condition has, the whole being level 1
abbrev mutual
  pub levels : Condition → ℕ
  levels (compares a o b) = 1
  levels (negates c) = levels c + 1
  levels (all cs) = list_levels cs + 1
  levels (any cs) = list_levels cs + 1

  -- those of a list: the most that one of its conditions has
  pub list_levels : Conditions → ℕ
  list_levels (one c) = levels c
  list_levels (more c cs) = max (levels c) (list_levels cs)

-- the digits of a number stand for 1,000,000 at most
abbrev pub KnownNumber : ℤ → Type 0
KnownNumber (pos n) = n ≤ 1000000
KnownNumber (negsuc n) = suc n ≤ 1000000

-- so do those of a shift
abbrev pub KnownShift : Shift → Type 0
KnownShift Bare = Unit {0}
KnownShift (Plus n) = n ≤ 1000000
KnownShift (Minus n) = n ≤ 1000000

-- so do those of a side, and its cell is one of the sheet's first `cells`
abbrev pub KnownSide : ℕ → Side → Type 0
KnownSide cells (Number z) = KnownNumber z
KnownSide cells (Cell c h) = (c < cells) × KnownShift h

-- every cell of a condition is one of the first `cells`, and no digits stand for more than 1,000,000
abbrev mutual
  pub Known : ℕ → Condition → Type 0
  Known cells (compares a o b) = KnownSide cells a × KnownSide cells b
  Known cells (negates c) = Known cells c
  Known cells (all cs) = KnownAll cells cs
  Known cells (any cs) = KnownAll cells cs

  -- the same of every condition of a list
  pub KnownAll : ℕ → Conditions → Type 0
  KnownAll cells (one c) = Known cells c
  KnownAll cells (more c cs) = Known cells c × KnownAll cells cs

-- the cell that a side names, if it names one
abbrev pub side_cells : Side → List ℕ
side_cells (Number z) = []
side_cells (Cell c h) = c ∷ []

-- the cells that a condition names, in the order of its text
abbrev mutual
  pub mentions : Condition → List ℕ
  mentions (compares a o b) = side_cells a ++ side_cells b
  mentions (negates c) = mentions c
  mentions (all cs) = list_mentions cs
  mentions (any cs) = list_mentions cs

  -- those that a list names
  pub list_mentions : Conditions → List ℕ
  list_mentions (one c) = mentions c
  list_mentions (more c cs) = mentions c ++ list_mentions cs

-- whether c is among some cells
abbrev pub among : ℕ → List ℕ → Bool
among c xs = list_any (λ x. c == x) xs

-- some cells with more after them, each only where it first appears
abbrev pub noted : List ℕ → List ℕ → List ℕ
noted seen [] = seen
noted seen (c ∷ cs) = noted (cond (among c seen) seen (seen ++ (c ∷ []))) cs

-- a formula's cells, ordered by first appearance
abbrev pub cells_of : Condition → List ℕ
cells_of c = noted [] (mentions c)
