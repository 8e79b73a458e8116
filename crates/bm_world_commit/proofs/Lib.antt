mod Own
mod Used
mod Completed
mod Others
mod Whole
pub mod Bound
