pub mod AllPassed
pub mod Committed
pub mod Hashed
pub mod Own
pub mod OwnSigned
pub mod Places
pub mod WorldsOfRuns
pub mod Worth
