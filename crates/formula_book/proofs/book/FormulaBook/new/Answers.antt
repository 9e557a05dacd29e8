use Rattle.std.proofs.Common.{arith, slice_index_or}
use Rattle.formula_book.specs.Formulas.{no_formula}
use Rattle.formula_book.specs.Support.{lists_of}
use Rattle.formula_book.proofs.Conditions.{means_condition}
use Rattle.formula_book.proofs.book.FormulaBook.new.Goals as goal

pub invariant_of-result : goal.invariant_of-result
invariant_of-result c = record { ok = c.is_well_formed.ensures.0 c.if-is_well_formed.true }

-- no rules are well formed
pub invariant_of-result-2 : goal.invariant_of-result-2
invariant_of-result-2 c = record { ok = record { few = omega arith; each = λ r h. absurd (omega arith) } }

pub returns-then-is_well_formed-clause-means : goal.returns-then-is_well_formed-clause-means
returns-then-is_well_formed-clause-means c = λ r d s.
    means_condition (lists_of c.args.lengths.now c.args.numbers.now) c.args.nodes.now (slice_index_or c.args.formulas.now r no_formula) d s

pub returns-clause-means : goal.returns-clause-means
returns-clause-means c = λ r d s. means_condition (lists_of c.args.lengths.now c.args.numbers.now) c.args.nodes.now no_formula d s
