pub mod Adverts
pub mod Contracts
pub mod Headings
pub mod Steps
pub mod Tests
