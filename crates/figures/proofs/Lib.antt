pub mod Figuring
