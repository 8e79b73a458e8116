pub mod Committed
pub mod Entries
