pub mod Gives
pub mod Judged
pub mod Longer
pub mod Extending
pub mod Ruled
pub mod Taking
pub mod Trying
pub mod Turning
