use Rattle.std.proofs.Common.{ℕ, ◌+◌, ◌-◌, ◌^◌, ◌≤◌, List}
use Rattle.bits.specs.Sets.{members}
use Rattle.runs.specs.declared.line.Line.{Line}
use Rattle.clash.specs.Seeking.{Keeps, lasting_of, Logs}
use Rattle.clash.proofs.Steps.{More-halves}
use Rattle.clash.proofs.core_search.CoreSearch.halve.Given as goal

abbrev pub invariant-loop-low : goal.invariant-loop-low
invariant-loop-low g l =
    let start = l.initial.self in
    ((ws : List Line) × Logs start ws l.self
    × More-halves (g.T.Runner.runs l.initial.self.runner.now) l.round.found (members l.round.candidates) 1 l.initial.high (lasting_of start) ws l.low l.high (lasting_of l.self))
    × (1 ≤ l.low) × (l.low ≤ l.high) × (l.high ≤ l.initial.high)
    × ((L : ℕ) × (l.high - l.low + 1 ≤ 2 ^ L) × (l.self.lines + L ≤ l.initial.self.lines + 6))
    × Keeps start l.self

abbrev pub decreases-loop-low : goal.decreases-loop-low
decreases-loop-low g l = l.high - l.low
