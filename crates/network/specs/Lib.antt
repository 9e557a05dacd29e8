pub mod Book
pub mod Fillings
pub mod Made
pub mod BookLaws
pub mod Cells
pub mod Tries
