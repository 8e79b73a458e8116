pub mod Naming
pub mod Refusals
pub mod Reached
pub mod Compilations
pub mod Fresh
