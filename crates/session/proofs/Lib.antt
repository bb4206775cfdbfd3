-- Lemmas that serve the proofs of this crate's functions.
pub mod Fits
pub mod Marks
