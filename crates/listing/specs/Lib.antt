-- Text in, text out. Definitions stand here, what is proved of them under Laws.
pub mod Numbers
pub mod Text
pub mod Lines
pub mod Feed
pub mod Plan
pub mod Paper
pub mod Printout
pub mod Laws
