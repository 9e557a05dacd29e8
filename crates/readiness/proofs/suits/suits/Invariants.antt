use Rattle.std.proofs.Common.{ℕ, ◌<◌, length}
use Rattle.runs.specs.Settle.{cell_at}
use Rattle.readiness.proofs.suits.suits.Given as goal

abbrev pub invariant-loop-rule : goal.invariant-loop-rule
invariant-loop-rule g l =
    let m = g.B.RuleBook.meaning l.book in
    (r i : ℕ) → r < l.rule → i < length (m.rule r).cells → cell_at m r i < l.cells
