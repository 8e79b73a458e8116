pub mod Lines
pub mod Missing
pub mod Sayable
pub mod Statements
pub mod Tells
