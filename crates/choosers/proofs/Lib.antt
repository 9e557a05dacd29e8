pub mod Choosing
pub mod Orders
