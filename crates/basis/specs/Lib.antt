-- The vocabulary of the whole product. Definitions stand here, what is proved of them under Laws.
pub mod Choice
pub mod Refusals
pub mod Lists
pub mod Board
pub mod Units
pub mod RunKinds
pub mod Bits
pub mod Sums
pub mod Laws
