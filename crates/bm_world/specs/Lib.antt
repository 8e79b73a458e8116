pub mod Foreseeing
pub mod Halts
pub mod Kinds
pub mod Playing
pub mod Reached
pub mod Standing
pub mod Starting
