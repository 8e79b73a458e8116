pub mod View
pub mod SubtermView
