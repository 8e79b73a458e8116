pub mod Begins
mod Few
mod Found
pub mod Keyed
pub mod Walking
