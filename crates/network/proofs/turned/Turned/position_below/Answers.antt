use Rattle.std.proofs.Common.{◌-◌, sym, ◌∙◌, subst, inl, inr, arith}
use Rattle.network.specs.Book.{flag_at}
use Rattle.network.specs.Made.{SamePosition}
use Rattle.network.proofs.Books.{turn, turn_inside, turn_past, turn_off}
use Rattle.network.proofs.turned.Turned.position_below.Goals as goal

pub returns-then-position-width : goal.returns-then-position-width
returns-then-position-width g c =
    let rule = (g.B.RuleBook.meaning c.args.self.now.below).rule c.args.rule in
    let b = flag_at c.args.self.now.flags c.args.rule in
    subst (λ n. SamePosition (turn b rule) c.args.position rule (n - 1 - c.args.position)) (sym c.width-width.ensures)
    (turn_inside b rule (sym c.flagged.ensures ∙ c.if-flagged.true) c.args.position (omega (arith, c.width-width.ensures, c.if-position-width.true)))

pub returns-else-flagged : goal.returns-else-flagged
returns-else-flagged g c =
    let rule = (g.B.RuleBook.meaning c.args.self.now.below).rule c.args.rule in
    let b = flag_at c.args.self.now.flags c.args.rule in
    elim c.else-flagged.either [
      | inl past ↦ turn_past b rule c.args.position (omega (arith, c.width-width.ensures, past.1))
      | inr off ↦ turn_off b rule (sym c.flagged.ensures ∙ off) c.args.position
    ]
