-- Fillings, and the rules that they meet. Assumes nothing.
use Rattle.std.specs.Prelude.{◌≡◌, ℕ, ◌<◌, true, List, map, length, slice_index}
use Rattle.bits.specs.Sets.{In}
use Rattle.network.specs.Book.{Rule, BookMeaning, Remains}

-- the row that a filling gives to a rule: the filling's place of each of the rule's cells, in their order
abbrev pub row_of : Rule → List ℕ → List ℕ
row_of rule f = map (λ c. slice_index f c) rule.cells

-- the filling meets the rule: the rule permits that row
abbrev pub Meets : Rule → List ℕ → Type 0
Meets rule f = rule.permits (row_of rule f) ≡ true

-- the filling meets every rule of the set
abbrev pub MeetsAll : BookMeaning → ℕ → List ℕ → Type 0
MeetsAll m rules f = (r : ℕ) → In rules r → Meets (m.rule r) f

-- the filling has one place for each cell of the sets, and it remains there
pub record Inside (f sets : List ℕ) : Type 0 where
  pub long : length f ≡ length sets
  pub each : (c : ℕ) → c < length sets → Remains sets c (slice_index f c)

-- some filling inside the sets meets every rule of the set
pub record Meetable (m : BookMeaning) (sets : List ℕ) (rules : ℕ) : Type 0 where
  pub filling : List ℕ
  pub inside : Inside filling sets
  pub meets : MeetsAll m rules filling
