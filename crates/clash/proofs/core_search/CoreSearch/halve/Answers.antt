use Rattle.std.proofs.Common.{ℕ, ◌+◌, ◌/◌, ◌<◌, [], ◌∷◌, ◌++◌, sym, ap, ◌∙◌, subst, arith}
use lib.Bits.{bit_or}
use Rattle.bits.specs.Sets.{members}
use Rattle.cores.proofs.CoreLaw.{room_down, room_up, room_here}
use Rattle.clash.specs.Seeking.{lasting_of}
use Rattle.clash.proofs.LogFacts.{wrote_none}
use Rattle.clash.proofs.Steps.{halve_down, halve_up, halve_end}
use Rattle.clash.proofs.Seeks.{keeps_all, keeps_then, later, before, logs_more}
use Rattle.clash.proofs.core_search.CoreSearch.halve.Goals as goal

pub loop-low-init : goal.loop-low-init
loop-low-init g c =
    let s = c.args.self.now in
    (([], wrote_none s.log.now s.lines, λ ls j u p. p), omega arith, c.requires.some, omega arith, (6, omega (arith, c.requires.few), omega arith), keeps_all s)

pub run-tried-requires : goal.run-tried-requires
run-tried-requires g c =
    let i = c.loop-low.invariant in
    let s = c.args.self.now in
    let here = room_here c.loop-low.low c.loop-low.high i.4.0 c.loop-low.self.lines (s.lines + 6) c.loop-low-test.true i.4.1 i.4.2 in
    record {
      ready = later i.5 (λ p. g.T.Runner.ready p (bit_or c.args.round.found c.first.result))
          (subst (λ (x : ℕ). g.T.Runner.ready s.runner.now (bit_or c.args.round.found x)) (sym c.first.ensures) (c.requires.ready ((c.loop-low.low + c.loop-low.high) / 2)));
      line = omega (arith, c.requires.lines, i.5.long);
    }

pub loop-low-preserved : goal.loop-low-preserved
loop-low-preserved g c =
    let k = g.T.Runner in
    let s = c.args.self.now in
    let p = s.runner.now in
    let m = c.run-tried.result in
    let i = c.loop-low.invariant in
    let e = c.run-tried.ensures.lists ∙ ap (bit_or c.args.round.found) c.first.ensures in
    let now = c.run-tried.new.self in
    let run = before i.5 (λ x. k.runs x (lasting_of c.loop-low.self) m now.sets.now (lasting_of now)) c.run-tried.ensures.steps in
    let r = (k.laws p).lawful.right run in
    let lt : c.loop-low.low < c.loop-low.high = c.loop-low-test.true in
    let here = room_here c.loop-low.low c.loop-low.high i.4.0 c.loop-low.self.lines (s.lines + 6) lt i.4.1 i.4.2 in
    let room = room_up c.loop-low.low c.loop-low.high i.4.0 c.loop-low.self.lines (s.lines + 6) lt i.4.1 i.4.2 in (
      (
        i.0.0 ++ m ∷ [],
        logs_more now m i.5 (omega (arith, c.requires.lines)) i.0.1 c.run-tried.ensures.logs c.run-tried.ensures.counts,
        halve_up (k.runs p) c.args.round.found (members c.args.round.candidates) i.0.0 lt (record { run = run; lists = e; says = c.in-Met.is }) i.0.2,
      ),
      omega arith,
      omega arith,
      i.3,
      (room.0, room.1, omega (arith, room.2, c.run-tried.ensures.counts)),
      keeps_then i.5 c.run-tried.ensures.keeps,
    )

pub loop-low-preserved-in-Unmet : goal.loop-low-preserved-in-Unmet
loop-low-preserved-in-Unmet g c =
    let k = g.T.Runner in
    let s = c.args.self.now in
    let p = s.runner.now in
    let m = c.run-tried.result in
    let i = c.loop-low.invariant in
    let e = c.run-tried.ensures.lists ∙ ap (bit_or c.args.round.found) c.first.ensures in
    let now = c.run-tried.new.self in
    let run = before i.5 (λ x. k.runs x (lasting_of c.loop-low.self) m now.sets.now (lasting_of now)) c.run-tried.ensures.steps in
    let lt : c.loop-low.low < c.loop-low.high = c.loop-low-test.true in
    let here = room_here c.loop-low.low c.loop-low.high i.4.0 c.loop-low.self.lines (s.lines + 6) lt i.4.1 i.4.2 in
    let room = room_down c.loop-low.low c.loop-low.high i.4.0 c.loop-low.self.lines (s.lines + 6) lt i.4.1 i.4.2 in (
      (
        i.0.0 ++ m ∷ [],
        logs_more now m i.5 (omega (arith, c.requires.lines)) i.0.1 c.run-tried.ensures.logs c.run-tried.ensures.counts,
        halve_down (k.runs p) c.args.round.found (members c.args.round.candidates) i.0.0 lt (record { run = run; lists = e; says = c.in-Unmet.is }) i.0.2,
      ),
      i.1,
      omega arith,
      omega (arith, i.3),
      (room.0, room.1, omega (arith, room.2, c.run-tried.ensures.counts)),
      keeps_then i.5 c.run-tried.ensures.keeps,
    )

pub returns : goal.returns
returns g c =
    let i = c.loop-low.invariant in
    record {
      least = i.1;
      most = omega (arith, i.2, i.3);
      short = omega (arith, i.4.2);
      keeps = i.5;
      steps = (i.0.0, i.0.1, halve_end (g.T.Runner.runs c.args.self.now.runner.now) c.args.round.found (members c.args.round.candidates) i.0.0 (let lt = c.loop-low-test.false in omega (arith, i.2)) i.0.2);
    }
