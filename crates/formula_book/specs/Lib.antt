pub mod Trees
pub mod Formulas
pub mod Support
pub mod FormulaLaws
