use Rattle.std.proofs.Common.{Decides, subst, arith}
use Rattle.std.proofs.lemmas.Bool.{false≢true}
use Rattle.network.specs.Book.{Supported}
use Rattle.rows.specs.Rows.{rule_of}
use Rattle.rows.proofs.Cells.{width_here}
use Rattle.rows.proofs.Finding.{permitted_supported, forbidden_supported}
use Rattle.rows.proofs.support.RowsBookRuleBook.supported.Goals as goal

pub returns-then-position-rule : goal.returns-then-position-rule
returns-then-position-rule c = (
  (λ e. absurd (false≢true e)),
  (λ s. absurd (omega (arith, s.within, width_here c.args.self.now.bytes.now c.args.self.now.rules.now c.args.rule c.in-Some.rule.now c.in-Some.ensures.0, c.if-position-rule.true))),
)

pub returns-in-Permitted : goal.returns-in-Permitted
returns-in-Permitted c =
    let bytes = c.args.self.now.bytes.now in
    let found = c.in-Some.ensures in
    subst (λ rule. Decides c.some_stored.result (Supported (rule_of bytes rule) c.args.position c.args.place c.args.sets.now)) found.0
    (permitted_supported bytes c.in-Some.rule.now found.1 c.args.position c.args.place c.if-position-rule.false c.args.sets.now c.allowed-masks.result (omega arith) c.allowed-masks.ensures
    c.stored_rows-rows.result.now c.stored_rows-rows.ensures c.some_stored.result c.in-Permitted.is c.some_stored.ensures)

pub returns-in-Forbidden : goal.returns-in-Forbidden
returns-in-Forbidden c =
    let bytes = c.args.self.now.bytes.now in
    let found = c.in-Some.ensures in
    subst (λ rule. Decides c.some_unstored.result (Supported (rule_of bytes rule) c.args.position c.args.place c.args.sets.now)) found.0
    (forbidden_supported bytes c.in-Some.rule.now found.1 c.args.position c.args.place c.if-position-rule.false c.args.sets.now c.allowed-masks.result (omega arith) c.allowed-masks.ensures
    c.stored_rows-rows.result.now c.stored_rows-rows.ensures c.some_unstored.result c.in-Forbidden.is c.some_unstored.ensures)
