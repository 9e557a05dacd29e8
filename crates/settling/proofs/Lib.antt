pub mod Revised
pub mod Reports
