pub mod Tree
pub mod Truth
pub mod Faults
pub mod Layout
pub mod Reading
