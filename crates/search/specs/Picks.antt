-- The try that a search makes next. Assumes nothing.
use Rattle.std.specs.Prelude.{ℕ}
use Rattle.network.specs.Book.{BookMeaning}
use Rattle.choosers.specs.Choice.{Machine}
use Rattle.runs.specs.Settle.{State}
use Rattle.runs.specs.Run.{Choice, Chosen}

-- the chooser names the cell c, which is open, and v is the place to try there
pub record Picks {C : Type 0} (k : Machine C) (m : BookMeaning) (listed : ℕ) (x : C) (s : State) (c v : ℕ) : Type 0 where
  pub choice : Choice k m listed x s c v
  pub chosen : Chosen s.sets c v
