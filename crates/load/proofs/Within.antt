-- A formula's first fault lies within its text. Assumes nothing.
use Rattle.std.proofs.Common.{ℕ, ◌≤◌, List, length, arith}
use Rattle.formulas.specs.declared.fault.Flaw.{Flaw}
use Rattle.formulas.specs.declared.fault.Flaw.TheVariants.{Grammar, Level, Range, Cells}
use Rattle.formulas.specs.Faults.{Fault, First}
use Rattle.formulas.proofs.Firsts.{deep_within, large_within}

fault_within : (cells : ℕ) (s : List ℕ) (f : Flaw) (k : ℕ) → Fault cells s f k → k ≤ length s
fault_within cells s Grammar k h = h.within
fault_within cells s Level k h = deep_within s k h
fault_within cells s Range k h = omega (arith, large_within h)
fault_within cells s Cells k h = omega (arith, h.first)

pub first_within : (cells : ℕ) (s : List ℕ) (f : Flaw) (k : ℕ) → First cells s f k → k ≤ length s
first_within cells s f k h = fault_within cells s f k h.here
