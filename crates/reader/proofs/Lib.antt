pub mod Places
pub mod Refusals
pub mod Assembly
pub mod Cells
pub mod Wholes
