pub mod Numbers
pub mod Feed
pub mod Reading
pub mod Plan
pub mod Determined
