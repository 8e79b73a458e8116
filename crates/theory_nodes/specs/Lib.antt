pub mod Keyed
pub mod Walk
pub mod Found
