use Rattle.std.proofs.Common.{◌≡◌, ◌^◌, ◌<◌, [], ◌∷◌, ◌++◌, sym, ap, subst, arith}
use Rattle.bits.specs.Sets.{size}
use Rattle.bits.proofs.Same.{size_lt, subset_small}
use Rattle.runs.specs.declared.line.Verdict.TheVariants.{Unmet}
use Rattle.cores.proofs.CoreLaw.{says_clash}
use Rattle.clash.specs.Seeking.{lasting_of}
use Rattle.clash.proofs.LogFacts.{wrote_none}
use Rattle.clash.proofs.Steps.{shrink_more, shrink_end}
use Rattle.clash.proofs.Seeks.{keeps_all, keeps_then, later, before, logs_more}
use Rattle.clash.proofs.core_search.CoreSearch.shrink.Goals as goal

pub loop-line-init : goal.loop-line-init
loop-line-init g c =
    let s = c.args.self.now in
    let h : c.args.opening.listed < 2 ^ 64 = omega arith in
    (([], wrote_none s.log.now s.lines, λ ls d u p. p), c.requires.ready, c.requires.inside, c.requires.clash, omega (arith, c.requires.lines), h, keeps_all s)

pub run-line-requires : goal.run-line-requires
run-line-requires g c =
    let k = g.T.Runner in
    let s = c.args.self.now in
    let l = c.loop-line.line in
    let i = c.loop-line.invariant in
    let small : l.used < 2 ^ 64 = subset_small l.used l.listed i.2 i.5 in
    let lt : size l.used < size l.listed = size_lt l.used l.listed small i.5 i.2 c.loop-line-test.true in
    record {
      ready = later i.6 (λ p. k.ready p l.used) ((k.laws s.runner.now).part l.used l.listed i.2 i.1);
      line = omega (arith, i.4, i.6.long);
    }

pub loop-line-preserved : goal.loop-line-preserved
loop-line-preserved g c =
    let k = g.T.Runner in
    let s = c.args.self.now in
    let p = s.runner.now in
    let l = c.loop-line.line in
    let m = c.run-line.result in
    let i = c.loop-line.invariant in
    let e = c.run-line.ensures.lists in
    let now = c.run-line.new.self in
    let run = before i.6 (λ x. k.runs x (lasting_of c.loop-line.self) m now.sets.now (lasting_of now)) c.run-line.ensures.steps in
    let r = (k.laws p).lawful.right run in
    let v : m.verdict ≡ Unmet = says_clash l.used r e i.3 in
    let small : l.used < 2 ^ 64 = subset_small l.used l.listed i.2 i.5 in
    let lt : size l.used < size l.listed = size_lt l.used l.listed small i.5 i.2 c.loop-line-test.true in
    let z : size m.listed ≡ size l.used = ap size e in (
      (
        i.0.0 ++ m ∷ [],
        logs_more now m i.6 (omega (arith, i.4)) i.0.1 c.run-line.ensures.logs c.run-line.ensures.counts,
        shrink_more (k.runs p) i.0.0 c.loop-line-test.true (record { run = run; lists = e; says = v }) i.0.2,
      ),
      subst (k.ready p) (sym e) ((k.laws p).part l.used l.listed i.2 i.1),
      r.among v,
      r.clash v,
      omega (arith, i.4, c.run-line.ensures.counts),
      rw e small,
      keeps_then i.6 c.run-line.ensures.keeps,
    )

pub loop-line-smaller : goal.loop-line-smaller
loop-line-smaller g c =
    let l = c.loop-line.line in
    let i = c.loop-line.invariant in
    let small : l.used < 2 ^ 64 = subset_small l.used l.listed i.2 i.5 in
    let lt : size l.used < size l.listed = size_lt l.used l.listed small i.5 i.2 c.loop-line-test.true in
    let z = ap size c.run-line.ensures.lists in omega arith

pub returns : goal.returns
returns g c =
    let i = c.loop-line.invariant in
    record { keeps = i.6; steps = (i.0.0, i.0.1, shrink_end _ i.0.0 c.loop-line-test.false i.0.2) }
