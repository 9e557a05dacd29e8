pub mod Pushing
pub mod Starting
pub mod Ending
