pub mod Decimals
pub mod Ranges
pub mod Pieces
