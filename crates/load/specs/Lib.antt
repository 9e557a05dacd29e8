pub mod Parts
pub mod Read
pub mod Fields
pub mod Load
