pub mod Needs
pub mod Keying
pub mod Entries
pub mod Gives
pub mod Building
pub mod Spelled
pub mod Texts
pub mod Refusals
