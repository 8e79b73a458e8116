pub mod Hashing
pub mod Transactions
pub mod KeptApart
