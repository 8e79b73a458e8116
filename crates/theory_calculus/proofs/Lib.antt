pub mod Members
pub mod Names
pub mod Faultless
pub mod Ordered
pub mod Offered
pub mod Runs
pub mod Numbered
pub mod Sums
pub mod Stands
pub mod Bindings
pub mod Checked
pub mod Funded
pub mod Standing
pub mod Totals
pub mod OneBalance
pub mod Kept
mod Vectors
