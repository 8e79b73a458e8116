pub mod Offered
pub mod Numbered
pub mod Money
pub mod Members
