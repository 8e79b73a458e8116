pub mod Moving
pub mod Asking
pub mod Shown
pub mod Lengths
pub mod Kinds
pub mod Moments
