pub mod Keyed
pub mod Numbered
pub mod Passes
pub mod Limits
pub mod Seen
