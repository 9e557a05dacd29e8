pub mod Books
pub mod Meeting
pub mod Chosen
pub mod Allowing
pub mod Supports
