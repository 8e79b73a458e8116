pub mod ChainFileVectors
pub mod DealVectors
pub mod StateVectors
pub mod TurnVectors
pub mod WalletVectors
