pub mod OutputScripts
pub mod Stands
pub mod Subterms
pub mod Transactions
