pub mod Among
pub mod Balances
pub mod Scripts
pub mod Smallness
pub mod Found
pub mod Pigeons
pub mod Searchable
