pub mod Preparing
pub mod Telling
