pub mod CoreLaw
pub mod Unique
