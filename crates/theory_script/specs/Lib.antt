pub mod Keyed
pub mod Listed
pub mod Choices
pub mod Endorsed
pub mod Money
pub mod Items
pub mod Limits
