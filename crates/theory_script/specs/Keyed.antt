pub mod Listed
pub mod Endorsed
pub mod Money
pub mod Limits
