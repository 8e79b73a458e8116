pub mod Prefixes
pub mod Shown
pub mod Signed
pub mod Refused
