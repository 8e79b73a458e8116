pub mod Lengths
pub mod Weighed
pub mod WarnTold
