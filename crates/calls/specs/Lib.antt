pub mod Answers
pub mod Sheet
pub mod History
pub mod Plays
pub mod Promise
pub mod Runs
