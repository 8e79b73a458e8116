pub mod Instances
pub mod Starting
pub mod Authorising
