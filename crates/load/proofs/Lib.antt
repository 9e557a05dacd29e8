pub mod Heads
pub mod Adding
pub mod Within
pub mod Steps
pub mod Sizes
pub mod Lists
pub mod Rows
