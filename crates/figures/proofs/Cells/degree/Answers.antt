use Rattle.std.proofs.Common.{◌≤◌, arith}
use Rattle.std.proofs.lemmas.List.FromFn.{sum_by-map-range_with_len_more}
use Rattle.runs.specs.Figures.{share}
use Rattle.figures.proofs.Cells.degree.Goals as goal

pub loop-rule-preserved : goal.loop-rule-preserved
loop-rule-preserved g c =
    let s = c.args.self.now in
    let more = sum_by-map-range_with_len_more (λ x. x) (share (g.B.RuleBook.meaning s.book.now) s.listed s.sets.now s.weights.now c.args.cell) 0 c.loop-rule.rule c.loop-rule.rule (omega arith) in
    let small : c.share.result ≤ 4294967295 = omega (arith, c.share.type_inv) in
    (omega (arith, more, c.loop-rule.invariant.0, c.share.ensures), omega (arith, c.loop-rule.invariant.1))
