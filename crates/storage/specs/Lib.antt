pub mod Owned
pub mod Outcome
