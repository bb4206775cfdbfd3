-- Packets in order. Definitions stand here, what is proved of them under Laws.
pub mod Sizes
pub mod Plan
pub mod Steps
pub mod Walk
pub mod Marks
pub mod Laws
