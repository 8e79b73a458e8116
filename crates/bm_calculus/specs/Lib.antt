pub mod Agreed
pub mod Answers
pub mod Reached
pub mod Takings
pub mod Undecided
