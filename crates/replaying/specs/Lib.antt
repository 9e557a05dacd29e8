pub mod Lines
pub mod Sessions
pub mod Replays
