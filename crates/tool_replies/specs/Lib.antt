pub mod Counted
pub mod Going
pub mod Halting
pub mod Last
pub mod Weighed
pub mod Whole
