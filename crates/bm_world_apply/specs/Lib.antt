pub mod Applying
pub mod Guessing
