pub mod Shows
pub mod Examples
pub mod Samples
