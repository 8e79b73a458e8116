pub mod Takings
pub mod Unmet
mod Standing
mod Led
mod Bound
