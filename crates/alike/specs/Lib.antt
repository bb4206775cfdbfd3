-- The plain session beside the quick one. Definitions stand here, what is proved of them under Laws.
pub mod Alike
pub mod Bench
pub mod Laws
