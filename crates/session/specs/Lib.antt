-- The host session. Definitions stand here in the paper's order, what is proved of them under Laws.
pub mod Phases
pub mod Session
pub mod Laws
