pub mod RunLaws
pub mod Fillings
pub mod Promising
pub mod Following
