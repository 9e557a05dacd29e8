pub mod Room
pub mod Picks
