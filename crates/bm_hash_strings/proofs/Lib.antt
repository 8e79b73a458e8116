pub mod Joined
pub mod Fingerprints
pub mod Updates
pub mod Placing
pub mod Forgetting
