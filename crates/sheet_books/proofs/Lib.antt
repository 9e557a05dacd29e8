pub mod Parts
pub mod StoredRows
mod StoredCells
pub mod StoredNumbers
mod StoredFormulas
pub mod Whole
