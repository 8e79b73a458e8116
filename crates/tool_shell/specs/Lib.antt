pub mod Answered
pub mod Around
pub mod Asked
pub mod Determined
pub mod Files
pub mod Logs
pub mod Replied
