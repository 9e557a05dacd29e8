pub mod Verdict
pub mod Settle
pub mod Figures
pub mod Run
pub mod Law
