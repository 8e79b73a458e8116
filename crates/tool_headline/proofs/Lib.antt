pub mod Caused
pub mod Headlines
pub mod Shown
