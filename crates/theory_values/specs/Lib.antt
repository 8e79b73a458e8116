pub mod Replies
pub mod EveryEvent
