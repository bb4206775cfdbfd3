-- The product as C programs see it. Definitions stand here, what is proved of them under Laws.
pub mod States
pub mod Answers
pub mod Files
pub mod Laws
