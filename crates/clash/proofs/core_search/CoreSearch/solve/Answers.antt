use Rattle.std.proofs.Common.{◌≡◌, ◌^◌, ◌<◌, [], ◌∷◌, set, refl, sym, ap, ◌∙◌, subst, arith}
use Rattle.cores.specs.Fit.{Shrinks, Rounds}
use Rattle.bits.specs.Sets.{members, size}
use Rattle.bits.proofs.Size.{size_le}
use Rattle.clash.specs.Logged.{Wrote}
use Rattle.clash.specs.Seeking.{lasting_of}
use Rattle.clash.proofs.LogFacts.{wrote_none, wrote_next}
use Rattle.clash.proofs.Steps.{filled, searched, room}
use Rattle.clash.proofs.Seeks.{keeps_then, later, before}
use Rattle.clash.proofs.core_search.CoreSearch.solve.Goals as goal

pub returns-in-Met : goal.returns-in-Met
returns-in-Met g c =
    let k = g.T.Runner in
    let s = c.args.self.now in
    let p = s.runner.now in
    let m = c.run-line.result in
    let now = c.run-line.new.self in
    let small : c.args.on < 2 ^ 64 = omega arith in
    let wrote : Wrote s.log.now 0 1 (m ∷ []) now.log.now =
    wrote_next m (omega (arith, c.requires.lines)) (wrote_none s.log.now 0) (c.run-line.ensures.logs ∙ ap (λ n. set s.log.now n m) c.requires.first) refl in
    record {
      keeps = c.run-line.ensures.keeps;
      logged =
          filled (k.runs p) (k.fits p) (k.laws p).lawful small (omega (arith, c.run-line.ensures.keeps.long, c.requires.lines)) wrote
          (record { run = c.run-line.ensures.steps; lists = c.run-line.ensures.lists; says = c.in-Met.is });
    }

pub shrink-candidates-requires : goal.shrink-candidates-requires
shrink-candidates-requires g c =
    let k = g.T.Runner in
    let s = c.args.self.now in
    let m = c.run-line.result in
    let keeps = c.run-line.ensures.keeps in
    let r = (k.laws s.runner.now).lawful.right c.run-line.ensures.steps in
    let v = c.in_default.is in
    let z = size_le m.listed in
    record {
      ready = later keeps (λ p. k.ready p m.listed) (subst (k.ready s.runner.now) (sym c.run-line.ensures.lists) c.requires.ready);
      inside = r.among v;
      clash = later keeps (λ p. k.fits p m.used → ⊥) (r.clash v);
      lines = omega (arith, c.requires.lines, c.requires.first, keeps.long, c.run-line.ensures.counts);
    }

pub rounds-core-requires : goal.rounds-core-requires
rounds-core-requires g c =
    let k = g.T.Runner in
    let s = c.args.self.now in
    let p = s.runner.now in
    let m = c.run-line.result in
    let now = c.run-line.new.self in
    let end = c.shrink-candidates.new.self in
    let d = c.shrink-candidates.result in
    let r = (k.laws p).lawful.right c.run-line.ensures.steps in
    let v = c.in_default.is in
    let small : m.listed < 2 ^ 64 = omega arith in
    let one : now.lines ≡ 1 = omega (arith, c.run-line.ensures.counts, c.requires.first) in
    let keeps = keeps_then c.run-line.ensures.keeps c.shrink-candidates.ensures.keeps in
    let h = c.shrink-candidates.ensures.steps in
    let shrinks = before c.run-line.ensures.keeps (λ x. Shrinks (k.runs x) m (lasting_of now) h.0 d (lasting_of end)) h.2 in
    let q = room (k.runs p) (k.fits p) (k.laws p).lawful small v r one h.1 shrinks in
    record {
      ready = later keeps (λ x. k.ready x d) ((k.laws p).part d m.listed q.0 (subst (k.ready p) (sym c.run-line.ensures.lists) c.requires.ready));
      clash = later keeps (λ x. k.fits x d → ⊥) q.1;
      lines = omega (arith, q.2, c.requires.lines, keeps.long);
    }

pub returns : goal.returns
returns g c =
    let k = g.T.Runner in
    let s = c.args.self.now in
    let p = s.runner.now in
    let m = c.run-line.result in
    let now = c.run-line.new.self in
    let end = c.shrink-candidates.new.self in
    let last = c.rounds-core.new.self in
    let d = c.shrink-candidates.result in
    let r = (k.laws p).lawful.right c.run-line.ensures.steps in
    let v = c.in_default.is in
    let keeps = keeps_then c.run-line.ensures.keeps c.shrink-candidates.ensures.keeps in
    let h = c.shrink-candidates.ensures.steps in
    let i = c.rounds-core.ensures.steps in
    let shrinks = before c.run-line.ensures.keeps (λ x. Shrinks (k.runs x) m (lasting_of now) h.0 d (lasting_of end)) h.2 in
    let rounds = before keeps (λ x. Rounds (k.runs x) (members d) 0 (size d) (lasting_of end) i.0 c.rounds-core.result (lasting_of last)) i.2 in
    let small : c.args.on < 2 ^ 64 = omega arith in
    let wrote : Wrote s.log.now 0 now.lines (m ∷ []) now.log.now =
    wrote_next m (omega (arith, c.requires.lines, c.requires.first)) (subst (λ n. Wrote s.log.now 0 n [] s.log.now) (sym c.requires.first) (wrote_none s.log.now 0)) c.run-line.ensures.logs c.run-line.ensures.counts in
    record {
      keeps = keeps_then keeps c.rounds-core.ensures.keeps;
      logged =
          searched (k.runs p) (k.fits p) (k.laws p).lawful small c.rounds-core.ensures.inside wrote (record { run = c.run-line.ensures.steps; lists = c.run-line.ensures.lists; says = v }) h.1 shrinks i.1 rounds;
    }
