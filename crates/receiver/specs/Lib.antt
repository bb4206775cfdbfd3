-- The receiver. Definitions stand here lowest first, what is proved of them under Laws.
pub mod Hearing
pub mod Receiver
pub mod Laws
