mod Found
mod Lacking
mod Lists
mod Names
pub mod Audited
pub mod Nothing
