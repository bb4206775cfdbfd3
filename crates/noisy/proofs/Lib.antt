-- Lemmas that serve the proofs of this crate's functions.
pub mod Joining
pub mod Exchanging
pub mod Driving
pub mod Beginning
