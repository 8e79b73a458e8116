mod Compiling
mod Foretold
mod Heard
mod Opened
mod Passed
mod Placed
mod Played
mod Posts
mod Reaching
pub mod Found
pub mod Stopped
