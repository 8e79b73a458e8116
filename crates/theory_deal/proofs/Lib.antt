mod Ascending
pub mod Branches
pub mod ByName
mod Causes
mod Circles
mod DealFiles
mod DealLines
mod Ecdsa
mod EndorsementsOfRuns
mod FinishAnswers
mod FinishedOpens
mod FirstOf
pub mod OfKeys
mod ForSigners
mod InOrder
mod KeysGiven
pub mod Ledger
pub mod Listed
mod NothingTwice
mod Plain
mod PlanOfRuns
mod Planned
pub mod ReadAgain
pub mod ReadBranches
pub mod ReadDeals
pub mod ReadSecrets
pub mod ReadSignatures
mod Scripts
mod SecretLines
mod Shapes
mod SignatureLines
mod Signing
mod SigningOrder
mod Transactions
mod Unsigned
mod Used
mod Verified
mod WalletWitnesses
pub mod WellFormed
pub mod Whole
pub mod WholeDeals
pub mod Widths
