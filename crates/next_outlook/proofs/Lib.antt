mod Composed
mod Endorsing
mod Events
pub mod Hashless
mod Listed
mod Looked
mod Told
