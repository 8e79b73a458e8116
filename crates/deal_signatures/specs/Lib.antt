pub mod Keying
pub mod Agreeing
pub mod Seen
pub mod Gives
pub mod Refusals
pub mod Halves
