pub mod Seen
pub mod Gives
pub mod Offers
pub mod Refusals
