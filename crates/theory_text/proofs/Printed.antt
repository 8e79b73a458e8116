pub mod Adverts
pub mod Contracts
pub mod Marks
pub mod NumberPieces
pub mod Pieces
pub mod Tests
pub mod WordPieces
