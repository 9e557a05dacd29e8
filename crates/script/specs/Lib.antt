pub mod Words
pub mod Script
