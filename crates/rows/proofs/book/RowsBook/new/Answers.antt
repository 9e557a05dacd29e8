use Rattle.std.proofs.Common.{get_or, refl, arith}
use Rattle.rows.specs.Rows.{no_rows}
use Rattle.rows.proofs.Rows.{permits_decides}
use Rattle.rows.proofs.book.RowsBook.new.Goals as goal

pub invariant_of-result : goal.invariant_of-result
invariant_of-result c = record { ok = c.is_well_formed.ensures.0 c.if-is_well_formed.true }

-- no rules are well formed
pub invariant_of-result-2 : goal.invariant_of-result-2
invariant_of-result-2 c = record { ok = record { few = omega arith; each = λ r h. absurd (omega arith) } }

pub returns-then-is_well_formed : goal.returns-then-is_well_formed
returns-then-is_well_formed c = record {
  taken = λ _. refl;
  refused = λ none. absurd (none (c.is_well_formed.ensures.0 c.if-is_well_formed.true));
  bytes = refl;
  means = λ k row. let rule = get_or c.args.rules.now k no_rows in permits_decides rule.kind c.args.bytes.now rule row;
}
