pub mod Places
pub mod Suited
