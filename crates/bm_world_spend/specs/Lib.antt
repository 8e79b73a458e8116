pub mod Placed
pub mod Purposes
pub mod Gifts
