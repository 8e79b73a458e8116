pub mod Whole
pub mod Positions
pub mod Transactions
pub mod Outputs
pub mod Own
pub mod Taken
