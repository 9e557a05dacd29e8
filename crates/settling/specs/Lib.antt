pub mod Report
pub mod Kept
