pub mod Pieces
pub mod Texts
pub mod Scenes
pub mod WayTexts
pub mod ShareTexts
pub mod RunTexts
pub mod Frames
pub mod Documents
