use Rattle.std.proofs.Common.{◌≡◌, ℕ, ◌<◌, length, get_or, drop}
use Rattle.session.specs.Pins.{LowestByte}
use Rattle.session.proofs.start.write_lowest.Given as goal

abbrev pub invariant-loop-cell : goal.invariant-loop-cell
invariant-loop-cell l = ((k : ℕ) → k < l.cell → LowestByte (get_or l.sets k 0) (get_or l.filling k 0)) × (drop (length l.sets) l.filling ≡ drop (length l.sets) l.initial.filling)
