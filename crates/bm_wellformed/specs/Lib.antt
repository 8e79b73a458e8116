pub mod Small
pub mod Search
pub mod Refused
