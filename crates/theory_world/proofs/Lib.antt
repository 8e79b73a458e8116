pub mod Book
pub mod Bookless
pub mod Contracts
pub mod Hashed
mod Hashing
pub mod Labels
pub mod Later
pub mod Ledger
pub mod Once
pub mod Refused
pub mod Same
pub mod Staying
pub mod Tests
