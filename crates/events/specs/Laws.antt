pub mod Events
pub mod Endings
pub mod Determined
