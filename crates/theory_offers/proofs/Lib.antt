mod AllSigned
mod Balanced
mod Blanked
mod CutRuns
mod Endorsing
mod Faithful
mod HaveEvents
mod Leads
mod Permitted
mod PutReveals
mod Starts
mod TakingLeads
mod Takings
mod Unlocked
mod Unmet
pub mod Authorised
pub mod Basis
pub mod Beginning
pub mod BegunInRun
pub mod BoundDeposits
pub mod Complete
pub mod OffersKept
pub mod Throughout
pub mod WholeRun
