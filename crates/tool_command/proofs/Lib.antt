mod JudgedTwo
pub mod FewEvents
pub mod InOrder
pub mod Taken
