-- A load with rubbish between its packets. Definitions stand here, what is proved of them under Laws.
pub mod Noisy
pub mod Laws
