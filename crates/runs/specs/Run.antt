-- A run: tries of one place alone, and what became of them. Assumes nothing.
use Rattle.std.specs.Prelude.{◌≡◌, ℕ, ◌^◌, ◌<◌, Bool, true, false, cond, ◌≢◌, List, length, slice_set}
use Rattle.bits.specs.Sets.{Lowest, size}
use Rattle.network.specs.Book.{BookMeaning, Remains}
use Rattle.choosers.specs.Choice.{Machine}
use Rattle.choosers.specs.declared.chooser.Event.TheVariants.{Start, Failed, Stood}
use Rattle.runs.specs.declared.line.Line.{Line}
use Rattle.runs.specs.declared.line.Verdict.TheVariants.{Met, Unmet}
use Rattle.runs.specs.Settle.{State, state, left_at, out_of, Settles, Fails}
use Rattle.runs.specs.Figures.{figures_of}

-- the place v is the one to try at the cell c: its lowest
abbrev pub Tried : List ℕ → ℕ → ℕ → Type 0
Tried sets c v = Lowest (left_at sets c) v

-- the chooser k, in the state x, names a cell c, which is not 255, and v is the place to try there
pub record Choice {C : Type 0} (k : Machine C) (m : BookMeaning) (listed : ℕ) (x : C) (s : State) (c v : ℕ) : Type 0 where
  pub named : k.names x (figures_of m listed s.sets s.weights) ≡ c
  pub some : c ≢ 255
  pub place : Tried s.sets c v

-- the cell c is open, and the place v remains there
pub record Chosen (sets : List ℕ) (c v : ℕ) : Type 0 where
  pub within : c < length sets
  pub opened : 1 < size (left_at sets c)
  pub there : Remains sets c v

-- the sets with the place v alone at the cell c
abbrev pub alone : State → ℕ → ℕ → State
alone s c v = state (slice_set s.sets c (2 ^ v)) s.used s.weights

-- after a failed try of v at c, from s, that ended at t: the sets from before it without that place, and the rules used and the weights as they are now
abbrev pub back : State → ℕ → ℕ → State → State
back s c v t = state (out_of s.sets c v) t.used t.weights

mutual
  -- from settled sets to the end: true is a filling, false is none.
  -- Where no cell is open the sets are a filling (filled). Otherwise a place is tried: the try stands to a filling (stands); or it fails, and the sets
  -- from before it settle without the place, and the run goes on from there (goes_on), or they do not settle (ends)
  pub data Explores {C : Type 0} (k : Machine C) (m : BookMeaning) (listed : ℕ) : C → State → Bool → C → State → Type 0 where
    filled : {x : C} {s : State} → k.names x (figures_of m listed s.sets s.weights) ≡ 255 → Explores k m listed x s true x s
    stands : {x y : C} {s t u : State} {c v : ℕ} → Choice k m listed x s c v → Settles m listed (alone s c v) t
        → Explores k m listed (k.told x (Stood c)) t true y u → Explores k m listed x s true y u
    goes_on : {x y z : C} {s t u w : State} {c v : ℕ} {found : Bool} → Choice k m listed x s c v → TryFails k m listed x s c v y t
        → Settles m listed (back s c v t) u → Explores k m listed y u found z w → Explores k m listed x s found z w
    ends : {x y : C} {s t u : State} {c v r : ℕ} → Choice k m listed x s c v → TryFails k m listed x s c v y t
        → Fails m listed r (back s c v t) u → Explores k m listed x s false y u

  -- the try of v at c fails: in its first settling (at_first); or later, when settling fails while it is the latest try still standing (at_last)
  pub data TryFails {C : Type 0} (k : Machine C) (m : BookMeaning) (listed : ℕ) : C → State → ℕ → ℕ → C → State → Type 0 where
    at_first : {x : C} {s t : State} {c v r : ℕ} → Fails m listed r (alone s c v) t → TryFails k m listed x s c v (k.told x (Failed c)) t
    at_last : {x y : C} {s t u : State} {c v : ℕ} → Settles m listed (alone s c v) t
        → Explores k m listed (k.told x (Stood c)) t false y u → TryFails k m listed x s c v (k.told y (Failed c)) u

-- the try of v at c stands: it settles, and a filling comes of it
pub record TryStands {C : Type 0} (k : Machine C) (m : BookMeaning) (listed : ℕ) (x : C) (s : State) (c v : ℕ) (y : C) (u : State) : Type 0 where
  pub after : State
  pub first : Settles m listed (alone s c v) after
  pub then : Explores k m listed (k.told x (Stood c)) after true y u

-- a search from the starting sets: they are settled first
pub data Searches {C : Type 0} (k : Machine C) (m : BookMeaning) (listed : ℕ) (x : C) (s : State) : Bool → C → State → Type 0 where
  fails : {t : State} {r : ℕ} → Fails m listed r s t → Searches k m listed x s false x t
  settled : {y : C} {t u : State} {found : Bool} → Settles m listed s t → Explores k m listed x t found y u → Searches k m listed x s found y u

-- the line of a run
abbrev pub line : ℕ → Bool → ℕ → Line
line listed found used = record { listed = listed; used = cond found 0 used; verdict = cond found Met Unmet }

-- a whole run, from the chooser x and the weights: the chooser is told that it begins, and no rule is used yet.
-- It writes a line, and leaves the chooser, the weights and the sets
pub data Run {C : Type 0} (k : Machine C) (m : BookMeaning) (start : List ℕ) (listed : ℕ) (x : C) (weights : List ℕ) : Line → C → List ℕ → List ℕ → Type 0 where
  ran : {y : C} {t : State} {found : Bool} → Searches k m listed (k.told x Start) (state start 0 weights) found y t
      → Run k m start listed x weights (line listed found t.used) y t.weights t.sets
