-- The plain session. Definitions stand here, what is proved of them under Laws.
pub mod Stages
pub mod Plain
pub mod List
pub mod Laws
