-- What settling and a run come to, in terms of the rules' meaning alone. Assumes nothing.
use Rattle.std.specs.Prelude.{◌≡◌, ℕ, ◌<◌, ◌≤◌, ◌⊎◌, List, length, slice_index}
use Rattle.bits.specs.Sets.{In, Subset}
use Rattle.network.specs.Book.{BookMeaning, Supported, Remains}
use Rattle.network.specs.Fillings.{MeetsAll, Inside, Meetable}
use Rattle.choosers.specs.Choice.{Machine}
use Rattle.runs.specs.declared.line.Line.{Line}
use Rattle.runs.specs.declared.line.Verdict.TheVariants.{Met, Unmet}
use Rattle.runs.specs.Settle.{State, Empty, cell_at, Settles, Fails}
use Rattle.runs.specs.Run.{Run}

-- at most 64 rules, and their cells are among the first n
pub record Suits (m : BookMeaning) (n : ℕ) : Type 0 where
  pub few : m.count ≤ 64
  pub cells : (r i : ℕ) → i < length (m.rule r).cells → cell_at m r i < n

-- some place remains at each cell
abbrev pub Full : List ℕ → Type 0
Full sets = (c : ℕ) → c < length sets → Empty sets c → ⊥

-- every place that remains in the small sets remains in the large ones
abbrev pub Within : List ℕ → List ℕ → Type 0
Within small large = (c v : ℕ) → Remains small c v → Remains large c v

-- every place that remains at a cell of a listed rule has support from that rule
abbrev pub Closed : BookMeaning → ℕ → List ℕ → Type 0
Closed m listed sets = (r i v : ℕ) → In listed r → i < length (m.rule r).cells → Remains sets (cell_at m r i) v → Supported (m.rule r) i v sets

-- from `used` on to `used'`, rules are only marked, and only listed ones
pub record Marks (listed used used' : ℕ) : Type 0 where
  pub more : Subset used used'
  pub among : (r : ℕ) → In used' r → In used r ⊎ In listed r

-- after settling that holds: every place has support in these sets, and they contain all others within the starting ones of which that is true; none is empty,
-- and no filling that meets the rules used is lost
pub record Settled (m : BookMeaning) (listed : ℕ) (s t : State) : Type 0 where
  pub long : length t.sets ≡ length s.sets
  pub full : Full t.sets
  pub inside : Within t.sets s.sets
  pub closed : Closed m listed t.sets
  pub largest : (other : List ℕ) → Within other s.sets → Closed m listed other → Within other t.sets
  pub kept : (f : List ℕ) → Inside f s.sets → MeetsAll m t.used f → Inside f t.sets
  pub marks : Marks listed s.used t.used

-- after settling that fails: no filling inside the starting sets meets the rules used
pub record Clash (m : BookMeaning) (listed : ℕ) (s t : State) : Type 0 where
  pub clash : Meetable m s.sets t.used → ⊥
  pub marks : Marks listed s.used t.used

-- what a run wants: at most 64 cells, a book that suits them, listed rules that the book has, and some place at each cell
pub record Ready (m : BookMeaning) (start : List ℕ) (listed : ℕ) : Type 0 where
  pub few : length start ≤ 64
  pub suits : Suits m (length start)
  pub known : (r : ℕ) → In listed r → r < m.count
  pub full : Full start

-- the sets hold one place a cell, that of the filling
pub record Alone (sets f : List ℕ) : Type 0 where
  pub there : Inside f sets
  pub only : (c v : ℕ) → Remains sets c v → v ≡ slice_index f c

-- the sets left are a filling inside the starting ones that meets the rules: its place, and no other, remains at each cell
pub record Fills (m : BookMeaning) (start : List ℕ) (rules : ℕ) (sets : List ℕ) : Type 0 where
  pub filling : List ℕ
  pub inside : Inside filling start
  pub meets : MeetsAll m rules filling
  pub left : Alone sets filling

-- a line is right, where Fits a says that some filling meets the rules of a: the verdict is Met exactly if some filling meets the listed rules,
-- else it is Unmet, and then the rules used are among them and no filling meets these
pub record Right (Fits : ℕ → Type 0) (l : Line) : Type 0 where
  pub fits : l.verdict ≡ Met → Fits l.listed
  pub only : Fits l.listed → l.verdict ≡ Met
  pub unused : l.verdict ≡ Met → l.used ≡ 0
  pub among : l.verdict ≡ Unmet → Subset l.used l.listed
  pub clash : l.verdict ≡ Unmet → Fits l.used → ⊥

-- settling from s leaves t, and no settling from s leaves anything else or fails
pub record OnlySettles (m : BookMeaning) (listed : ℕ) (s t : State) : Type 0 where
  pub same : (u : State) → Settles m listed s u → u ≡ t
  pub never : (r : ℕ) (u : State) → Fails m listed r s u → ⊥

-- settling from s fails by the rule r and leaves t, and in no other way
pub record OnlyFails (m : BookMeaning) (listed r : ℕ) (s t : State) : Type 0 where
  pub same : (q : ℕ) (u : State) → Fails m listed q s u → (q ≡ r) × (u ≡ t)
  pub never : (u : State) → Settles m listed s u → ⊥

-- every run from the same start writes this line and leaves this chooser, these weights and these sets
abbrev pub OnlyRun : {C : Type 0} → Machine C → BookMeaning → List ℕ → ℕ → C → List ℕ → Line → C → List ℕ → List ℕ → Type 0
OnlyRun {C} k m start listed x weights l y weights' sets =
    (l' : Line) (y' : C) (w s : List ℕ) → Run k m start listed x weights l' y' w s → (l' ≡ l) × (y' ≡ y) × (w ≡ weights') × (s ≡ sets)
