pub mod Awaited
pub mod Marks
pub mod Trees
pub mod Statements
