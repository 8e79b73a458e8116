pub mod Detailed
pub mod Numbered
pub mod Sources
pub mod Wallets
