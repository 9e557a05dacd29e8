mod Nodes
pub mod Texts
mod Walks
mod Stored
