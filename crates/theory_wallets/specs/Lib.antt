pub mod Addresses
pub mod Dust
pub mod ForWallets
pub mod Networks
pub mod Ready
pub mod Shown
