pub mod Bits
pub mod Exponents
pub mod Folds
pub mod Values
