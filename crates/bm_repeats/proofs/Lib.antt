pub mod Marking
pub mod Meeting
pub mod Told
