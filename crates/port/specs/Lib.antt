-- The port. Definitions stand here, what is proved of them under Laws.
pub mod Port
pub mod Laws
