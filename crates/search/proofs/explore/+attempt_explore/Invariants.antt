use Rattle.std.proofs.Common.{◌+◌, ◌*◌, ◌≤◌, Bool, length}
use Rattle.std.specs.Prelude.{sum}
use Rattle.runs.specs.Settle.{State}
use Rattle.runs.specs.Run.{Explores}
use Rattle.settling.specs.Kept.{state_of, Kept}
use Rattle.search.specs.Room.{Able}
use Rattle.search.proofs.explore.+attempt_explore.Given as goal

abbrev pub decreases-attempt : goal.decreases-attempt
decreases-attempt g l = 2 * sum l.progress.now.sets.now

abbrev pub decreases-explore : goal.decreases-explore
decreases-explore g l = 2 * sum l.progress.now.sets.now + 1

-- what is explored from here is explored from the start
abbrev pub invariant-explore-tries : goal.invariant-explore-tries
invariant-explore-tries g l =
    let k = g.C.Chooser.meaning in
    let m = g.B.RuleBook.meaning in
    ((found : Bool) (y : g.row.C.Denot) (t : State)
    → Explores k (m l.progress.book.now) l.progress.rules l.chooser (state_of l.progress) found y t
    → Explores k (m l.initial.progress.book.now) l.initial.progress.rules l.initial.chooser (state_of l.initial.progress) found y t)
    × (sum l.progress.sets.now ≤ sum l.initial.progress.sets.now)
    × Able l.progress.sets.now (length l.initial.work)
    × Kept l.initial.progress l.progress

abbrev pub decreases-explore-tries : goal.decreases-explore-tries
decreases-explore-tries g l = sum l.progress.sets.now
