pub mod Bounds
pub mod Rows
pub mod Starting
pub mod Demand
pub mod Worked
pub mod Determined
