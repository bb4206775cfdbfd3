-- What is done for a station. Definitions stand here, what is proved of them under Laws.
pub mod Visit
pub mod Paper
pub mod Load
pub mod Laws
