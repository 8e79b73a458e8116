pub mod Endorsed
pub mod Foretold
pub mod Seen
