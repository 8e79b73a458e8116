pub mod Standing
pub mod Unmet
pub mod Endorsed
pub mod Planned
pub mod Nodes
