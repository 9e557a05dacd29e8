-- What a book made of other books has in common with them: the fillings that meet it, and its positions. Assumes nothing.
use Rattle.std.specs.Prelude.{◌≡◌, ℕ, ◌-◌, ◌<◌, ◌↔◌, List, slice_index_or}
use Rattle.network.specs.Book.{BookMeaning, Rule, Supported}
use Rattle.network.specs.Fillings.{Meets, Meetable}

-- the filling meets every rule of the book
abbrev pub MeetsBook : BookMeaning → List ℕ → Type 0
MeetsBook m f = (r : ℕ) → r < m.count → Meets (m.rule r) f

-- the filling meets every rule among the first n of the book
abbrev pub MeetsFirst : ℕ → BookMeaning → List ℕ → Type 0
MeetsFirst n m f = (r : ℕ) → r < n → r < m.count → Meets (m.rule r) f

-- a filling meets book b exactly if it meets both m and n
abbrev pub BothMet : BookMeaning → BookMeaning → BookMeaning → Type 0
BothMet m n b = (f : List ℕ) → MeetsBook b f ↔ MeetsBook m f × MeetsBook n f

-- the same where the count may stop: of n only the rules that are counted, up to 65,535 with those of m
abbrev pub CountedMet : BookMeaning → BookMeaning → BookMeaning → Type 0
CountedMet m n b = (f : List ℕ) → MeetsBook b f ↔ MeetsBook m f × MeetsFirst (65535 - m.count) n f

-- a filling meets a rule of book b exactly if it meets the same rule of m
abbrev pub SameMet : BookMeaning → BookMeaning → Type 0
SameMet m b = (r : ℕ) (f : List ℕ) → Meets (b.rule r) f ↔ Meets (m.rule r) f

-- the same rules can be met together in both, whatever the sets: so what is a core over one is a core over the other
abbrev pub SameMeetable : BookMeaning → BookMeaning → Type 0
SameMeetable m b = (sets : List ℕ) (rules : ℕ) → Meetable b sets rules ↔ Meetable m sets rules

-- position i of a rule goes with position j of another: the same cell, and support for the same places
pub record SamePosition (rule : Rule) (i : ℕ) (other : Rule) (j : ℕ) : Type 0 where
  pub cell : slice_index_or rule.cells i 255 ≡ slice_index_or other.cells j 255
  pub support : (v : ℕ) (sets : List ℕ) → Supported rule i v sets ↔ Supported other j v sets
