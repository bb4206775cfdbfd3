pub mod Course
pub mod Determined
