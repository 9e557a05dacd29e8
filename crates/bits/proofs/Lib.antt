pub mod Bits
pub mod Lists
pub mod Low
pub mod Members
pub mod Same
pub mod SetOf
pub mod Size
pub mod Whole
