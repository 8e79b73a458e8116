pub mod Settings
pub mod Turns
pub mod Halts
pub mod Pictures
pub mod Signing
pub mod Looked
