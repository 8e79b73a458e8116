pub mod Ordered
pub mod Judging
