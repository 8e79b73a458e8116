pub mod FoundStrings
pub mod LinesSay
pub mod Hashing
pub mod Offered
pub mod RefusedTold
