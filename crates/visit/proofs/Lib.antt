pub mod Handed
pub mod Bounds
