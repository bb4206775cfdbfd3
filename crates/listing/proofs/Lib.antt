-- Lemmas that serve the proofs of several of this crate's functions.
pub mod Buffers
pub mod Digits
pub mod Printed
pub mod Starts
pub mod Texts
pub mod Written
