pub mod Begun
pub mod Authorised
pub mod BoundDeposits
