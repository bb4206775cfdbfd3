-- Lemmas that serve the proofs of this crate's functions.
pub mod Delivering
pub mod Driving
pub mod Beginning
pub mod Heard
