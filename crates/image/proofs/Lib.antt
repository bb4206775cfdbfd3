pub mod Boards
pub mod Turns
pub mod Decoding
pub mod Halves
pub mod Handed
