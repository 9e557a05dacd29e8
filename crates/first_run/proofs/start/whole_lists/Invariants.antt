use Rattle.std.proofs.Common.{◌≡◌, ℕ, ◌<◌, length, get_or, None, vec_items}
use Rattle.calls.specs.Runs.{start_of}
use Rattle.first_run.proofs.start.whole_lists.Given as goal

abbrev pub invariant-loop-length : goal.invariant-loop-length
invariant-loop-length l =
    (length (vec_items l.start) ≡ l.length-index) × ((c : ℕ) → c < l.length-index → get_or (vec_items l.start) c 0 ≡ start_of (get_or l.lengths c 0) None)
