pub mod Fields
pub mod Turns
