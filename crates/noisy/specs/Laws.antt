pub mod Board
pub mod Moments
pub mod Ending
pub mod AsWithout
pub mod Demand
pub mod Heard
