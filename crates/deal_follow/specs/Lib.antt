pub mod Seen
pub mod Boards
pub mod Deposits
pub mod Showing
pub mod Judging
pub mod Spending
pub mod Follows
