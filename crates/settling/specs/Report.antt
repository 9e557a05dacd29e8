-- What the parts of settling report. Assumes nothing.
use Rattle.std.specs.Prelude.{◌≡◌, ◌<◌, Bool, true, false, sum}
use Rattle.runs.specs.Settle.{State}

-- what `removed` says of the places from s to t: false, that all are left; true, that some were removed, so that the masks add up to less
pub record Report (removed : Bool) (s t : State) : Type 0 where
  pub same : removed ≡ false → t.sets ≡ s.sets
  pub less : removed ≡ true → sum t.sets < sum s.sets
