pub mod Jacobian
pub mod Prime
pub mod Standing
