pub mod Steps
pub mod Talks
pub mod Bench
