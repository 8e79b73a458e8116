pub mod Judging
pub mod Replied
