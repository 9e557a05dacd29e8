-- What the readers promise. Assumes nothing.
use Rattle.std.specs.Prelude.{◌≡◌, ℕ, ◌+◌, ◌<◌, ◌≤◌, ◌≢◌, ◌⊎◌, List, [], ◌∷◌, ◌++◌, length, take, drop, slice_index}
use Rattle.formulas.specs.declared.node.Node.{Node}
use Rattle.formulas.specs.declared.node.Node.TheVariants.{And, Or}
use Rattle.formulas.specs.declared.fault.Flaw.TheVariants.{Grammar, Level}
use Rattle.formulas.specs.declared.fault.FormulaFault.{FormulaFault}
use Rattle.formulas.specs.Tree.{Condition, Conditions, not_word, and_word, or_word, text, list_text, levels, list_levels, Known, KnownAll}
use Rattle.formulas.specs.Faults.{next, First}
use Rattle.formulas.specs.Layout.{size, list_size, layout, list_layout, stored}
use Rattle.formulas.specs.Reading.{Spans, Ends}
use Rattle.reader.specs.Places.{ahead, Reads}
use Rattle.reader.specs.declared.cursor.Cursor.{Cursor}
use Rattle.reader.specs.declared.nested.Nested.{Nested}
use Rattle.reader.specs.declared.store.Store.{Store}
use Rattle.reader.specs.declared.join.Join.{Join}
use Rattle.reader.specs.declared.join.Join.TheVariants.{All, Any}

-- a byte outside the grammar
abbrev pub outside : ℕ → FormulaFault
outside k = record { flaw = Grammar; offset = k }

-- the words that open a bracket
abbrev pub Opener : List ℕ → Type 0
Opener w = (w ≡ not_word) ⊎ ((w ≡ and_word) ⊎ (w ≡ or_word))

-- the word w is spelled up to the offset of the fault, where another byte stands
pub record Misspelled (s : List ℕ) (at : ℕ) (w : List ℕ) (e : FormulaFault) : Type 0 where
  pub flaw : e.flaw ≡ Grammar
  pub seen : ℕ
  pub more : seen < length w
  pub spells : Spans s at (take seen w) e.offset
  pub wrong : next (drop e.offset s) ≢ slice_index w seen

-- the word is not spelled; or it is to its end, and its bracket would open level 17
abbrev pub NotOpened : List ℕ → ℕ → List ℕ → ℕ → FormulaFault → Type 0
NotOpened s at w level e = Misspelled s at w e ⊎ ((e.flaw ≡ Level) × Spans s at w e.offset × (level ≡ 16))

-- a fault is the text's first
abbrev pub FirstOf : ℕ → List ℕ → FormulaFault → Type 0
FirstOf cells s e = First cells s e.flaw e.offset

-- a condition was read from where it can begin up to another place, and its nodes stored from where the old store ended
pub record ReadOne (a : Nested) (old new : Store) (b : Cursor) : Type 0 where
  pub is : Condition
  pub reads : Reads a.at (text is) b
  pub known : Known a.at.text.now.cells is
  pub shallow : levels is + a.level ≤ 17
  pub ends : Ends is (ahead b)
  pub nodes : new.nodes.now ≡ stored old.nodes.now old.used (layout old.used is)
  pub count : new.used ≡ old.used + size is

-- the node that joins a condition and the rest of its list
abbrev pub joiner : Join → ℕ → ℕ → Node
joiner All = And
joiner Any = Or

-- the same of a list and the bracket that closes it
pub record ReadList (a : Nested) (join : Join) (old new : Store) (b : Cursor) : Type 0 where
  pub are : Conditions
  pub reads : Reads a.at (list_text are ++ (41 ∷ [])) b
  pub known : KnownAll a.at.text.now.cells are
  pub shallow : list_levels are + a.level ≤ 17
  pub nodes : new.nodes.now ≡ stored old.nodes.now old.used (list_layout (joiner join) old.used are)
  pub count : new.used ≡ old.used + list_size are
