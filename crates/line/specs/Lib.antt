-- The line between host and controller. Definitions stand here, what is proved of them under Laws;
-- demand 3 is Laws.Demand.
pub mod Line
pub mod Paper
pub mod Demand
pub mod Laws
