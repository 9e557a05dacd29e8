use Rattle.std.proofs.Common.{◌+◌, ◌*◌, ◌≤◌, List, length}
use Rattle.bits.specs.Sets.{members}
use Rattle.runs.specs.declared.line.Line.{Line}
use Rattle.cores.proofs.CoreLaw.{Ahead}
use Rattle.clash.specs.Seeking.{Keeps, lasting_of, Logs}
use Rattle.clash.proofs.Steps.{More-rounds}
use Rattle.clash.proofs.core_search.CoreSearch.rounds.Given as goal

abbrev pub invariant-rounds : goal.invariant-rounds
invariant-rounds g l =
    let k = g.T.Runner in
    let start = l.initial.self in
    let p = l.initial.self.runner.now in
    ((ws : List Line) × Logs start ws l.self
    × More-rounds (k.runs p) (members l.candidates) 0 l.initial.left (lasting_of start) ws l.found l.left (lasting_of l.self))
    × Ahead (k.runs p) (k.fits p) (k.laws p).lawful l.candidates (members l.candidates) l.found l.left
    × (l.self.lines + 1 + 7 * l.left ≤ length l.initial.self.log.now)
    × (l.left ≤ 64)
    × Keeps start l.self

abbrev pub decreases-rounds : goal.decreases-rounds
decreases-rounds g l = l.left
