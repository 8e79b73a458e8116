pub mod Filled
pub mod Standing
pub mod Shown
pub mod Taken
