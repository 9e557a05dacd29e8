pub mod Rooms
pub mod Tries
