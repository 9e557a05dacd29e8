pub mod Turning
pub mod Steps
pub mod Settling
pub mod Unique
pub mod Chosen
pub mod Running
pub mod OneRun
