use Rattle.std.proofs.Common.{ℕ}
use Rattle.std.specs.Prelude.{sum}
use Rattle.runs.specs.Settle.{Settles, Fails, State}
use Rattle.settling.specs.Kept.{state_of, Kept}
use Rattle.settling.proofs.progress.Progress.settle.Given as goal

-- what settles from here settles from the start, and fails likewise
abbrev pub invariant-loop : goal.invariant-loop
invariant-loop g l =
    let m = g.B.RuleBook.meaning in
    let s = l.initial.self in
    ((t : State) → Settles (m l.self.book.now) l.self.rules (state_of l.self) t → Settles (m s.book.now) s.rules (state_of s) t)
    × ((r : ℕ) (t : State) → Fails (m l.self.book.now) l.self.rules r (state_of l.self) t → Fails (m s.book.now) s.rules r (state_of s) t)
    × Kept s l.self

abbrev pub decreases-loop : goal.decreases-loop
decreases-loop g l = sum l.self.sets.now
