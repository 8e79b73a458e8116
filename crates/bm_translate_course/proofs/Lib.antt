pub mod Names
pub mod Blocks
pub mod Taken
pub mod Later
pub mod Here
pub mod Course
pub mod FromWorld
pub mod Tally
