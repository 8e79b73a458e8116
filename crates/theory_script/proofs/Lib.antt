mod Items
mod Once
mod Unlimited
pub mod Balances
pub mod Checked
pub mod Encoding
pub mod KeyPlan
pub mod Keyed
pub mod Listing
pub mod Missing
pub mod NumberLemmas
pub mod ScriptTheorem
pub mod Scripts
pub mod Sizes
