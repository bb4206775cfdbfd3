pub mod List
pub mod Fits
