mod Groups
mod Letters
pub mod Addresses
