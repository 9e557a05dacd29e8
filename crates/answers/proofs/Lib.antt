pub mod Telling
pub mod Stating
