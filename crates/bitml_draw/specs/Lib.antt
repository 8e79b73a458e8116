pub mod Causes
pub mod DrawAnswer
pub mod Drawn
pub mod Shown
