-- The packet. Definitions stand here lowest first, what is proved of them under Laws.
pub mod Turn
pub mod Table
pub mod Packet
pub mod Paper
pub mod Laws
