-- Lemmas that serve the proofs of this crate's functions.
pub mod Handing
