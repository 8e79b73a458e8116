pub mod Adverts
pub mod Contracts
pub mod Headings
pub mod LexemeNames
pub mod ReadWithin
pub mod Tests
