pub mod Gives
pub mod Entries
pub mod HeadingView
pub mod Refusals
pub mod Brackets
