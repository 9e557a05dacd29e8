pub mod Rows
pub mod Support
pub mod RowsLaws
