-- Settling: the places revised in order, and what each revision leaves. Assumes nothing.
use Rattle.std.specs.Prelude.{◌≡◌, ℕ, suc, ◌+◌, ◌-◌, ◌^◌, ◌<◌, min, ◌≢◌, List, length, bit_or, slice_index, slice_index_or, slice_set}
use Rattle.bits.specs.Sets.{In}
use Rattle.network.specs.Book.{BookMeaning, Supported, Remains}

-- what remains at each cell, the rules used so far, and the weight of each rule
pub record State : Type 0 where
  pub sets : List ℕ
  pub used : ℕ
  pub weights : List ℕ

-- a state of these parts
abbrev pub state : List ℕ → ℕ → List ℕ → State
state sets used weights = record { sets = sets; used = used; weights = weights }

-- the set of places that remain at a cell
abbrev pub left_at : List ℕ → ℕ → ℕ
left_at sets c = slice_index sets c

-- no place remains at the cell
abbrev pub Empty : List ℕ → ℕ → Type 0
Empty sets c = (v : ℕ) → Remains sets c v → ⊥

-- the cell at position i of rule r
abbrev pub cell_at : BookMeaning → ℕ → ℕ → ℕ
cell_at m r i = slice_index_or (m.rule r).cells i 255

-- n turns, one after another: R k s t says that the turn of number k, from 0, leads from s to t
pub data Turns {S : Type 0} (R : ℕ → S → S → Type 0) : ℕ → S → S → Type 0 where
  none : {s : S} → Turns R 0 s s
  more : {n : ℕ} {s t u : S} → Turns R n s t → R n t u → Turns R (suc n) s u

-- n such turns that are cut short: those before j are made, and the turn j goes by F and is the last
pub record Stops {S : Type 0} (R F : ℕ → S → S → Type 0) (n j : ℕ) (s t : S) : Type 0 where
  pub before : S
  pub within : j < n
  pub first : Turns R j s before
  pub last : F j before t

-- place v at position i of rule r remains, and has no support
pub record Lost (m : BookMeaning) (r i v : ℕ) (sets : List ℕ) : Type 0 where
  pub there : Remains sets (cell_at m r i) v
  pub unsupported : Supported (m.rule r) i v sets → ⊥

-- the sets without place v at the cell c
abbrev pub out_of : List ℕ → ℕ → ℕ → List ℕ
out_of sets c v = slice_set sets c (left_at sets c - 2 ^ v)

-- the set of rules with r marked
abbrev pub marked : ℕ → ℕ → ℕ
marked used r = bit_or used (2 ^ r)

-- the weights after the rule r has emptied a cell: its own is one more, and stops at the largest
abbrev pub weighed : ℕ → List ℕ → List ℕ
weighed r weights = slice_set weights r (min (slice_index weights r + 1) 4294967295)

-- place v at position i of rule r is revised: it does not remain, or it has support, and nothing changes; or it is removed and the rule marked used,
-- and another place remains at the cell
pub data Revises (m : BookMeaning) (r i : ℕ) : ℕ → State → State → Type 0 where
  absent : {v : ℕ} {s : State} → (Remains s.sets (cell_at m r i) v → ⊥) → Revises m r i v s s
  kept : {v : ℕ} {s : State} → Supported (m.rule r) i v s.sets → Revises m r i v s s
  removed : {v : ℕ} {s : State} → Lost m r i v s.sets → (Empty (out_of s.sets (cell_at m r i) v) (cell_at m r i) → ⊥)
      → Revises m r i v s (state (out_of s.sets (cell_at m r i) v) (marked s.used r) s.weights)

-- place v at position i of rule r is removed, and that empties the cell: settling fails, and the rule weighs more
pub data Empties (m : BookMeaning) (r i : ℕ) : ℕ → State → State → Type 0 where
  emptied : {v : ℕ} {s : State} → Lost m r i v s.sets → Empty (out_of s.sets (cell_at m r i) v) (cell_at m r i)
      → Empties m r i v s (state (out_of s.sets (cell_at m r i) v) (marked s.used r) (weighed r s.weights))

-- the places at position i of rule r are revised, from the lowest
abbrev pub Position : BookMeaning → ℕ → ℕ → State → State → Type 0
Position m r i s t = Turns (Revises m r i) 64 s t

-- the same up to the place whose removal empties the cell
abbrev pub PositionFails : BookMeaning → ℕ → ℕ → State → State → Type 0
PositionFails m r i s t = (v : ℕ) × Stops (Revises m r i) (Empties m r i) 64 v s t

-- rule r is taken: its positions in order
abbrev pub Takes : BookMeaning → ℕ → State → State → Type 0
Takes m r s t = Turns (Position m r) (length (m.rule r).cells) s t

-- the same up to the position whose cell is emptied
abbrev pub TakesFails : BookMeaning → ℕ → State → State → Type 0
TakesFails m r s t = (i : ℕ) × Stops (Position m r) (PositionFails m r) (length (m.rule r).cells) i s t

-- a rule's turn in a sweep: only a listed rule is taken
pub data Turn (m : BookMeaning) (listed r : ℕ) (s : State) : State → Type 0 where
  unlisted : (In listed r → ⊥) → Turn m listed r s s
  taken : {t : State} → In listed r → Takes m r s t → Turn m listed r s t

-- a listed rule's turn in which a cell is emptied
abbrev pub TurnFails : BookMeaning → ℕ → ℕ → State → State → Type 0
TurnFails m listed r s t = In listed r × TakesFails m r s t

-- a sweep: the listed rules in rising number
abbrev pub Sweep : BookMeaning → ℕ → State → State → Type 0
Sweep m listed s t = Turns (Turn m listed) m.count s t

-- a sweep up to the rule r, which empties a cell
abbrev pub SweepFails : BookMeaning → ℕ → ℕ → State → State → Type 0
SweepFails m listed r s t = Stops (Turn m listed) (TurnFails m listed) m.count r s t

-- settling holds: sweeps until one removes nothing
pub data Settles (m : BookMeaning) (listed : ℕ) : State → State → Type 0 where
  rest : {s t : State} → Sweep m listed s t → t.sets ≡ s.sets → Settles m listed s t
  again : {s t u : State} → Sweep m listed s t → t.sets ≢ s.sets → Settles m listed t u → Settles m listed s u

-- settling fails: sweeps until the rule r empties a cell
pub data Fails (m : BookMeaning) (listed r : ℕ) : State → State → Type 0 where
  at_once : {s t : State} → SweepFails m listed r s t → Fails m listed r s t
  later : {s t u : State} → Sweep m listed s t → t.sets ≢ s.sets → Fails m listed r t u → Fails m listed r s u
