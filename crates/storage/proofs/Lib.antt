pub mod Blank
pub mod Outcomes
