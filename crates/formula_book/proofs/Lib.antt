pub mod Conditions
pub mod Grounds
pub mod Cells
pub mod Listed
pub mod Cut
pub mod Finding
