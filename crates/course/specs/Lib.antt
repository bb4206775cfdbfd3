-- A session, whatever it keeps of its place. Definitions stand here, what is proved of them under Laws.
pub mod Paper
pub mod Course
pub mod Laws
