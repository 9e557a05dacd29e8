pub mod Faults
pub mod Sheet
pub mod Reading
pub mod Stored
pub mod Meaning
pub mod Tags
