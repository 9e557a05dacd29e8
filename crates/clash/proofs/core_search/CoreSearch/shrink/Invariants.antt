use Rattle.std.proofs.Common.{◌+◌, ◌^◌, ◌<◌, ◌≤◌, List, length}
use Rattle.bits.specs.Sets.{Subset, size}
use Rattle.runs.specs.declared.line.Line.{Line}
use Rattle.clash.specs.Seeking.{Keeps, lasting_of, Logs}
use Rattle.clash.proofs.Steps.{MoreShrinks}
use Rattle.clash.proofs.core_search.CoreSearch.shrink.Given as goal

-- what follows from here follows from the start
abbrev pub invariant-loop-line : goal.invariant-loop-line
invariant-loop-line g l =
    let k = g.T.Runner in
    let start = l.initial.self in
    let p = l.initial.self.runner.now in
    ((ws : List Line) × Logs start ws l.self × MoreShrinks (k.runs p) l.initial.line (lasting_of start) ws l.line (lasting_of l.self))
    × k.ready p l.line.listed
    × Subset l.line.used l.line.listed
    × (k.fits p l.line.used → ⊥)
    × (l.self.lines + size l.line.listed ≤ length l.initial.self.log.now)
    × (l.line.listed < 2 ^ 64)
    × Keeps start l.self

abbrev pub decreases-loop-line : goal.decreases-loop-line
decreases-loop-line g l = size l.line.listed
