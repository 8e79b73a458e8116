pub mod Unsigned
pub mod Gates
pub mod Pairs
pub mod Beside
pub mod Seen
