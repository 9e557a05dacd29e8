pub mod Running
pub mod Logged
pub mod Seeking
