pub mod Runs
pub mod Values
pub mod Lexing
