pub mod Prepares
pub mod Reaching
pub mod Accounts
pub mod Secrets
pub mod Compiling
pub mod Playable
