pub mod Port
pub mod Handed
pub mod Determined
pub mod All
