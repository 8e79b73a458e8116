mod Determined
pub mod Ended
mod Ending
mod Logged
pub mod Seen
mod Texts
mod Told
