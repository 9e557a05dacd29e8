use Rattle.std.proofs.Common.{ℕ, ◌<◌, length, refl, sym, subst, rules}
use Rattle.std.proofs.lemmas.Bool.Decides.{not_from_Decides}
use Rattle.runs.specs.Settle.{State, Empties, Revises.kept}
use Rattle.settling.specs.Kept.{state_of}
use Rattle.settling.proofs.Reports.{report_none}
use Rattle.settling.proofs.Revised.{absent_at, removed_at, emptied_at, report_at}
use Rattle.settling.proofs.progress.Progress.revise_place.Goals as goal

pub returns-then-not-has-clause-steps : goal.returns-then-not-has-clause-steps
returns-then-not-has-clause-steps g c =
    (absent_at _ _ _ _ _ _ _ _ c.requires.there c.requires.small (subst (λ (x : ℕ). x < length c.args.self.now.sets.now) c.requires.there c.requires.within) (not_from_Decides _ c.has.ensures c.if-not-has.true), report_none _)

pub returns-then-has_support-clause-steps : goal.returns-then-has_support-clause-steps
returns-then-has_support-clause-steps g c = (kept (c.has_support.ensures.0 c.if-has_support.true), report_none _)

pub returns-then-rest-eq0-clause-steps : goal.returns-then-rest-eq0-clause-steps
returns-then-rest-eq0-clause-steps g c =
    let m = g.B.RuleBook.meaning c.args.self.now.book.now in
    let p = c.args.self.now in
    let there = c.has.ensures.0 c.if-not-has.false in
    let within = subst (λ (x : ℕ). x < length p.sets.now) c.requires.there c.requires.within in (
      refl,
      subst (λ (t : State). Empties m c.args.rule c.args.position c.args.place (state_of p) t) (sym c.weigh.ensures.more)
          (emptied_at m c.args.rule c.args.position c.args.place p.sets.now p.used c.args.cell p.weights.now c.requires.there c.requires.small within there.1
          (not_from_Decides _ c.has_support.ensures c.if-has_support.false) _ _ (c.without-rest.ensures.out c.requires.small there.1) (c.with-self.ensures.more c.requires.few) c.if-rest-eq0.true),
    )

pub returns-clause-steps : goal.returns-clause-steps
returns-clause-steps g c =
    let m = g.B.RuleBook.meaning c.args.self.now.book.now in
    let p = c.args.self.now in
    let there = c.has.ensures.0 c.if-not-has.false in
    let out = c.without-rest.ensures.out c.requires.small there.1 in
    let more = c.with-self.ensures.more c.requires.few in
    let no = not_from_Decides _ c.has_support.ensures c.if-has_support.false in
    let within = subst (λ (x : ℕ). x < length p.sets.now) c.requires.there c.requires.within in (
      removed_at m c.args.rule c.args.position c.args.place p.sets.now p.used c.args.cell p.weights.now c.requires.there c.requires.small within there.1 no _ _ out more (search rules) c.if-rest-eq0.false,
      report_at m c.args.rule c.args.position c.args.place p.sets.now p.used c.args.cell p.weights.now c.requires.there c.requires.small within there.1 no _ _ out more,
    )
