pub mod LogFacts
pub mod Steps
pub mod Seeks
