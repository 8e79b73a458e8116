pub mod Choices
pub mod Composed
pub mod Saying
pub mod Listing
