-- Events and endings. Definitions stand here, what is proved of them under Laws.
pub mod Events
pub mod Endings
pub mod Paper
pub mod Laws
