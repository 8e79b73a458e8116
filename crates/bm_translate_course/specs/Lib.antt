pub mod Passing
pub mod Courses
