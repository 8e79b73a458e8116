pub mod Accepted
pub mod Adverts
pub mod EveryEvent
pub mod Secrets
pub mod Signs
pub mod Tracked
