pub mod Core
pub mod Fit
