pub mod Hearing
pub mod Gathered
pub mod Bytes
pub mod Feeding
pub mod Record
pub mod Handed
pub mod Stretch
