pub mod Causes
pub mod Files
pub mod Shown
pub mod Told
