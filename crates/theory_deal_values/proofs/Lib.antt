pub mod FinishedDeal
pub mod KnownSignatures
pub mod LongFiles
pub mod SignedFiles
mod PlannedDeals
mod RefusedDeals
mod SignedDeals
mod WalletDeals
mod WalletSigners
