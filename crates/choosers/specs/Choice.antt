-- What a cell chooser names, and what it becomes when told. Assumes nothing.
use Rattle.std.specs.Prelude.{◌≡◌, ℕ, ◌<◌, Bool, ◌&&◌, ◌⊎◌, List, nat_lt, slice_index_or}
use Rattle.choosers.specs.declared.chooser.Event.{Event}
use Rattle.choosers.specs.declared.chooser.Figure.{Figure}

-- what stands for the figure of a missing cell: no place remains there
abbrev pub no_figure : Figure
no_figure = record { places = 0; degree = 0 }

-- the figure of the cell c
abbrev pub figure : List Figure → ℕ → Figure
figure fs c = slice_index_or fs c no_figure

-- the cell c is open: two or more of its places remain; figures after the 64th belong to no cell
abbrev pub Open : List Figure → ℕ → Type 0
Open fs c = (c < 64) × (1 < (figure fs c).places)

-- the same, as a test
abbrev pub open? : List Figure → ℕ → Bool
open? fs c = nat_lt c 64 && nat_lt 1 (figure fs c).places

-- the number of an open cell; where no cell is open, 255
abbrev pub Named : List Figure → ℕ → Type 0
Named fs c = Open fs c ⊎ ((c ≡ 255) × ((k : ℕ) → Open fs k → ⊥))

-- a chooser's meaning, over its own state S: the cell that it names at some figures, and the state that it is in once told of an event
pub record Machine (S : Type 0) : Type 0 where
  pub names : S → List Figure → ℕ
  pub told : S → Event → S

-- the law of choosers, in any state and at any figures: the cell named is open, and 255 is named where none is
pub record Naming {S : Type 0} (m : Machine S) : Type 0 where
  pub named : (s : S) (fs : List Figure) → Named fs (m.names s fs)
