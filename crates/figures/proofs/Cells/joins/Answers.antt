use Rattle.std.proofs.Common.{ℕ, Bool, ◌&&◌, ltb, sym, refl, ap, ◌∙◌, arith}
use Rattle.bits.specs.Sets.{size}
use Rattle.figures.proofs.Figuring.{same_cell, other_cell, joins_is}
use Rattle.figures.proofs.Cells.joins.Goals as goal
use Rattle.figures.proofs.Cells.joins.Goals.{then-other-cell, else-other-cell}

pub loop-position-init : goal.loop-position-init
loop-position-init g c = (refl, refl)

pub loop-position-preserved : goal.loop-position-preserved
loop-position-preserved g c =
    let cells = ((g.B.RuleBook.meaning c.args.self.now.book.now).rule c.args.rule).cells in
    let i = c.loop-position.invariant in
    elim c.if-other-cell.branch [
      | then-other-cell w ↦
          same_cell c.args.self.now.sets.now c.args.cell cells c.loop-position.position c.cell-other.result (omega arith) c.cell-other.ensures
          w.if-other-cell.true i.0 i.1 w.here-is w.elsewhere-is
      | else-other-cell w ↦
          other_cell c.args.self.now.sets.now c.args.cell cells c.loop-position.position c.cell-other.result (omega arith) c.cell-other.ensures
          w.if-other-cell.false i.0 i.1 (ap (λ (n : ℕ). ltb 1 n) w.count.ensures.size ∙ ap (λ (x : ℕ). ltb 1 (size x)) w.remaining.ensures) w.here-is w.elsewhere-is
    ]

pub returns-then-here : goal.returns-then-here
returns-then-here g c =
    joins_is c.args.self.now.sets.now c.args.cell ((g.B.RuleBook.meaning c.args.self.now.book.now).rule c.args.rule).cells c.loop-position.position _ _ _ (omega arith)
    c.loop-position.invariant.0 c.loop-position.invariant.1 (sym (ap (λ (b : Bool). b && c.loop-position.elsewhere) c.if-here.true))

pub returns-else-here : goal.returns-else-here
returns-else-here g c =
    joins_is c.args.self.now.sets.now c.args.cell ((g.B.RuleBook.meaning c.args.self.now.book.now).rule c.args.rule).cells c.loop-position.position _ _ _ (omega arith)
    c.loop-position.invariant.0 c.loop-position.invariant.1 (c.if-here.false ∙ sym (ap (λ (b : Bool). b && c.loop-position.elsewhere) c.if-here.false))
