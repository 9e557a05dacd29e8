pub mod Making
pub mod Playing
