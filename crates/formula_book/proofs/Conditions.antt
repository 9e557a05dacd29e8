-- A rule whose root stands for a condition means that condition. Assumes nothing.
use Rattle.std.proofs.Common.{◌&&◌, List, ap, arith}
use Rattle.formulas.specs.declared.node.Node.{Node}
use Rattle.formulas.specs.Tree.{Condition}
use Rattle.formulas.specs.Layout.{Stands}
use Rattle.judge.proofs.Trees.{stands_true}
use Rattle.reader.specs.declared.formula.Formula.{Formula}
use Rattle.formula_book.specs.Formulas.{Lists, MeansCondition, rule_of, listed, assigned, unset, cells_of}

pub means_condition : (l : Lists) (ns : List Node) (f : Formula) (c : Condition) → Stands ns f.root c → MeansCondition l c (rule_of l ns f)
means_condition l ns f c s row = ap (λ b. listed l (cells_of f) row && b) (stands_true ns (assigned l unset (cells_of f) row) c f.root f.root (omega arith) s)
