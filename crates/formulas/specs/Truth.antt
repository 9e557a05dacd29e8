-- The truth of a formula at the cells' numbers. Assumes nothing.
use Rattle.std.specs.Prelude.{Bool, false, not, ◌&&◌, ◌||◌, List, ℤ, pos, negsuc, ◌+ℤ◌, ◌-ℤ◌, ◌==◌, int_le, int_lt, slice_index_or}
use Rattle.formulas.specs.declared.node.Shift.{Shift}
use Rattle.formulas.specs.declared.node.Shift.TheVariants.{Bare, Plus, Minus}
use Rattle.formulas.specs.declared.node.Side.{Side}
use Rattle.formulas.specs.declared.node.Side.TheVariants.{Number, Cell}
use Rattle.formulas.specs.declared.node.Relation.{Relation}
use Rattle.formulas.specs.declared.node.Relation.TheVariants.{Equal, NotEqual, Less, LessEqual, Greater, GreaterEqual}
use Rattle.formulas.specs.Tree.{Condition, compares, negates, all, any, Conditions, one, more}

-- a number with what is added to it or taken away
abbrev pub shifted : ℤ → Shift → ℤ
shifted z Bare = z
shifted z (Plus n) = z +ℤ pos n
shifted z (Minus n) = z -ℤ pos n

-- what a side comes to; a cell that has no number counts as 0
abbrev pub worth : List ℤ → Side → ℤ
worth numbers (Number z) = z
worth numbers (Cell c h) = shifted (slice_index_or numbers c (pos 0)) h

-- whether two numbers are equal
abbrev pub same : ℤ → ℤ → Bool
same (pos a) (pos b) = a == b
same (pos a) (negsuc b) = false
same (negsuc a) (pos b) = false
same (negsuc a) (negsuc b) = a == b

-- whether a relation holds between two numbers
abbrev pub related : Relation → ℤ → ℤ → Bool
related Equal x y = same x y
related NotEqual x y = not (same x y)
related Less x y = int_lt x y
related LessEqual x y = int_le x y
related Greater x y = int_lt y x
related GreaterEqual x y = int_le y x

-- whether a condition is true at the cells' numbers
abbrev mutual
  pub truth : List ℤ → Condition → Bool
  truth numbers (compares a o b) = related o (worth numbers a) (worth numbers b)
  truth numbers (negates c) = not (truth numbers c)
  truth numbers (all cs) = all_true numbers cs
  truth numbers (any cs) = any_true numbers cs

  -- whether every condition of a list is
  pub all_true : List ℤ → Conditions → Bool
  all_true numbers (one c) = truth numbers c
  all_true numbers (more c cs) = truth numbers c && all_true numbers cs

  -- whether some condition of a list is
  pub any_true : List ℤ → Conditions → Bool
  any_true numbers (one c) = truth numbers c
  any_true numbers (more c cs) = truth numbers c || any_true numbers cs
