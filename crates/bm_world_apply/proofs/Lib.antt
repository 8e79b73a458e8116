pub mod Unguessed
pub mod Last
pub mod Applied
