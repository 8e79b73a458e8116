pub mod Giving
pub mod Gathered
pub mod Ordered
pub mod Written
pub mod Merged
pub mod Joined
pub mod Combines
