pub mod Endings
pub mod Columns
pub mod PlacedTexts
pub mod Documents
