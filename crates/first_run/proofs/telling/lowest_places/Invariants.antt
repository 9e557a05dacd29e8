use Rattle.std.proofs.Common.{◌≡◌, ℕ, ◌<◌, length, get_or, vec_items}
use Rattle.session.specs.Pins.{LowestByte}
use Rattle.first_run.proofs.telling.lowest_places.Given as goal

abbrev pub invariant-loop-set : goal.invariant-loop-set
invariant-loop-set l = (length (vec_items l.places) ≡ l.set-index) × ((c : ℕ) → c < l.set-index → LowestByte (get_or l.sets c 0) (get_or (vec_items l.places) c 0))
