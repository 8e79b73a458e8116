pub mod Digits
pub mod Escapes
pub mod Paths
pub mod Texts
pub mod Values
