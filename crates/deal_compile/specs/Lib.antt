pub mod Keyed
pub mod Parts
pub mod Programs
pub mod Signable
pub mod Circles
