-- Each file is that of its sheet, by computation.
use Rattle.std.proofs.Common.{sym, ap, ⊎_elim}
use Rattle.formulas.specs.Tree.{numeral}
use Rattle.sheets.specs.Sheet.{file_of}
use Rattle.worked.specs.Examples.{sheet_of}
use Rattle.worked.proofs.example.Example.file.Goals as goal

pub returns-in-Opposed : goal.returns-in-Opposed
unfolding numeral
returns-in-Opposed c = ⊎_elim (λ e. ap (λ x. file_of (sheet_of x)) (sym e)) (λ e. ap (λ x. file_of (sheet_of x)) (sym e)) c.in-Opposed.is

pub returns-in-LoneRule : goal.returns-in-LoneRule
unfolding numeral
returns-in-LoneRule c = ap (λ x. file_of (sheet_of x)) (sym c.in-LoneRule.is)
