-- Station settings. Definitions stand here, what is proved of them under Laws.
pub mod Station
pub mod Table
pub mod Paper
pub mod Laws
