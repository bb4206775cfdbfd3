-- The service log. Definitions stand here, what is proved of them under Laws.
pub mod Big
pub mod Log
pub mod Paper
pub mod Laws
