pub mod FinishedDeal
pub mod RefusedCalls
pub mod RefusedChains
pub mod RefusedDealFiles
pub mod RefusedSecretFiles
pub mod RefusedSignatureFiles
pub mod Replies
pub mod SmallDeals
