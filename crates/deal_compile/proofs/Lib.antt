pub mod Bound
pub mod Hashing
pub mod Own
pub mod Puts
pub mod Signable
pub mod Strings
pub mod Under
pub mod Whole
