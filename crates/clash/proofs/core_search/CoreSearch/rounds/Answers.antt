use Rattle.std.proofs.Common.{◌≡◌, ℕ, ◌-◌, ◌^◌, ◌<◌, ◌≤◌, [], ◌∷◌, ◌++◌, get_or, sym, ap, ◌∙◌, subst, arith}
use lib.Bits.{bit_or}
use Rattle.std.proofs.lemmas.Option.{get_or_from_slice_get}
use Rattle.bits.specs.Sets.{members, size}
use Rattle.bits.proofs.SetOf.{members_subset}
use Rattle.bits.proofs.Members.{member_has}
use Rattle.cores.specs.Fit.{with_first, with_rule, Halves}
use Rattle.cores.proofs.CoreLaw.{Ahead, at_first, some_left, first_among, halved}
use Rattle.clash.specs.Seeking.{lasting_of}
use Rattle.clash.proofs.LogFacts.{wrote_none, wrote_then}
use Rattle.clash.proofs.Steps.{round_more, round_end}
use Rattle.clash.proofs.Seeks.{keeps_all, keeps_then, later, before, logs_more}
use Rattle.clash.proofs.core_search.CoreSearch.rounds.Goals as goal

pub rounds-init : goal.rounds-init
rounds-init g c =
    let k = g.T.Runner in
    let s = c.args.self.now in
    let p = s.runner.now in
    let d = c.args.candidates in
    let e : c.count-left.result ≡ size d = c.count-left.ensures.size in
    let small : d < 2 ^ 64 = omega arith in (
      ([], wrote_none s.log.now s.lines, λ ls u q h. h),
      subst (Ahead (k.runs p) (k.fits p) (k.laws p).lawful d (members d) 0) (sym e) (at_first (k.runs p) (k.fits p) (k.laws p).lawful small (λ r h. h) c.requires.clash),
      omega (arith, c.requires.lines),
      c.count-left.ensures.most,
      keeps_all s,
    )

pub run-alone-requires : goal.run-alone-requires
run-alone-requires g c =
    let k = g.T.Runner in
    let i = c.rounds.invariant in
    let d = c.args.candidates in
    record {
      ready = later i.4 (λ p. k.ready p c.rounds.found) ((k.laws c.args.self.now.runner.now).part c.rounds.found d i.1.among c.requires.ready);
      line = omega (arith, i.2, i.4.long);
    }

pub returns-in-Unmet : goal.returns-in-Unmet
returns-in-Unmet g c =
    let k = g.T.Runner in
    let s = c.args.self.now in
    let m = c.run-alone.result in
    let i = c.rounds.invariant in
    let e : c.count-left.result ≡ size c.args.candidates = c.count-left.ensures.size in
    let now = c.run-alone.new.self in
    let run = before i.4 (λ x. k.runs x (lasting_of c.rounds.self) m now.sets.now (lasting_of now)) c.run-alone.ensures.steps in
    let keeps = keeps_then i.4 c.run-alone.ensures.keeps in
    record {
      inside = omega (arith, i.2, c.run-alone.ensures.counts, keeps.long);
      keeps = keeps;
      steps = (
        i.0.0 ++ m ∷ [],
        logs_more now m i.4 (omega (arith, i.2)) i.0.1 c.run-alone.ensures.logs c.run-alone.ensures.counts,
        round_end (k.runs s.runner.now) (members c.args.candidates) i.0.0 e (record { run = run; lists = c.run-alone.ensures.lists; says = c.in-Unmet.is }) i.0.2,
      );
    }

pub halve-left-requires : goal.halve-left-requires
halve-left-requires g c =
    let k = g.T.Runner in
    let s = c.args.self.now in
    let p = s.runner.now in
    let d = c.args.candidates in
    let m = c.run-alone.result in
    let i = c.rounds.invariant in
    let now = c.run-alone.new.self in
    let run = before i.4 (λ x. k.runs x (lasting_of c.rounds.self) m now.sets.now (lasting_of now)) c.run-alone.ensures.steps in
    let r = (k.laws p).lawful.right run in
    let f = subst (k.fits p) c.run-alone.ensures.lists (r.fits c.in_default.is) in
    let some : 1 ≤ c.rounds.left = some_left (k.runs p) (k.fits p) (k.laws p).lawful d (members d) (λ j h. (member_has d j h).1) (members_subset d) c.rounds.found c.rounds.left i.1 f in
    let keeps = keeps_then i.4 c.run-alone.ensures.keeps in
    record {
      ready = λ j. later keeps (λ x. k.ready x (with_first c.rounds.found j (members d)))
          ((k.laws p).part (with_first c.rounds.found j (members d)) d (first_among (k.runs p) (k.fits p) (k.laws p).lawful d (members d) (λ q h. (member_has d q h).1) (members_subset d) j i.1) c.requires.ready);
      some = some;
      few = i.3;
      lines = omega (arith, i.2, c.run-alone.ensures.counts, keeps.long);
    }

pub rounds-smaller : goal.rounds-smaller
rounds-smaller g c = omega (arith, c.halve-left.ensures.least, c.halve-left.ensures.most)

pub rounds-preserved : goal.rounds-preserved
rounds-preserved g c =
    let k = g.T.Runner in
    let s = c.args.self.now in
    let p = s.runner.now in
    let d = c.args.candidates in
    let m = c.run-alone.result in
    let i = c.rounds.invariant in
    let j = c.halve-left.result in
    let now = c.run-alone.new.self in
    let end = c.halve-left.new.self in
    let run = before i.4 (λ x. k.runs x (lasting_of c.rounds.self) m now.sets.now (lasting_of now)) c.run-alone.ensures.steps in
    let keeps = keeps_then i.4 c.run-alone.ensures.keeps in
    let h = c.halve-left.ensures.steps in
    let halves = before keeps (λ x. Halves (k.runs x) c.rounds.found (members d) 1 c.rounds.left (lasting_of now) h.0 j (lasting_of end)) h.2 in
    let r = (k.laws p).lawful.right run in
    let says = c.in_default.is in
    let f = subst (k.fits p) c.run-alone.ensures.lists (r.fits says) in
    let most : c.rounds.left ≤ size d = i.1.most in
    let lt : j - 1 < size d = omega (arith, c.halve-left.ensures.least, c.halve-left.ensures.most) in
    let is : c.in-Some.rule ≡ get_or (members d) (j - 1) 0 = sym (get_or_from_slice_get (members d) (j - 1) c.in-Some.rule 0 (sym c.nth.ensures ∙ c.in-Some.is)) in
    let small : c.in-Some.rule < 64 = omega (arith, (member_has d (j - 1) lt).1) in
    let e : with_rule c.rounds.found j (members d) ≡ c.with-found.result = ap (λ (x : ℕ). bit_or c.rounds.found (2 ^ x)) (sym is) ∙ sym (c.with-found.ensures.more small) in (
      (
        (i.0.0 ++ m ∷ []) ++ h.0,
        wrote_then (logs_more now m i.4 (omega (arith, i.2)) i.0.1 c.run-alone.ensures.logs c.run-alone.ensures.counts) h.1,
        round_more (k.runs p) (members d) i.0.0 (record { run = run; lists = c.run-alone.ensures.lists; says = says }) halves e i.0.2,
      ),
      subst (λ (y : ℕ). Ahead (k.runs p) (k.fits p) (k.laws p).lawful d (members d) y (j - 1)) e
          (halved (k.runs p) (k.fits p) (k.laws p).lawful d (members d) (λ q l. (member_has d q l).1) (members_subset d) i.1 f halves),
      omega (arith, i.2, c.run-alone.ensures.counts, c.halve-left.ensures.short, c.halve-left.ensures.least, c.halve-left.ensures.most),
      omega (arith, i.3, c.halve-left.ensures.most),
      keeps_then keeps c.halve-left.ensures.keeps,
    )
