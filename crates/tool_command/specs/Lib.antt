pub mod Judges
pub mod Seen
