-- The loader. Definitions stand here lowest first, what is proved of them under Laws.
pub mod Protection
pub mod State
pub mod Verify
pub mod Commands
pub mod Take
pub mod Guard
pub mod Alike
pub mod Cases
pub mod Paper
pub mod Deeds
pub mod Laws
