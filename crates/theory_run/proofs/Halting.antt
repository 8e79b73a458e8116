pub mod Allowing
pub mod Halts
pub mod HaltsRightly
