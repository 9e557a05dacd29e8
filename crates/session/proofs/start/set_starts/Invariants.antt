use Rattle.std.proofs.Common.{◌≡◌, ℕ, ◌<◌, get_or, None}
use Rattle.calls.specs.Runs.{start_of}
use Rattle.session.specs.Pins.{held}
use Rattle.session.proofs.start.set_starts.Given as goal

abbrev pub invariant-loop-cell : goal.invariant-loop-cell
invariant-loop-cell l = (k : ℕ) → k < l.cell → get_or l.start k 0 ≡ start_of (get_or l.lengths k 0) (held (get_or l.lengths k 0) (get_or l.pins k None))
