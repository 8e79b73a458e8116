pub mod ByteList
pub mod Digits
pub mod Hashes
pub mod Lists
pub mod Messages
pub mod Name
pub mod Ranges
