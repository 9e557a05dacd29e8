pub mod Places
pub mod Stores
pub mod Mentions
pub mod Read
pub mod Formula
