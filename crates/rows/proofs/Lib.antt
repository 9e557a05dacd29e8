pub mod Rows
pub mod Chunks
pub mod Finding
pub mod Cells
pub mod Pigeon
