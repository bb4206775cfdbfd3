-- Flash and the hex file. Definitions stand here, what is proved of them under Laws.
pub mod Flash
pub mod Digits
pub mod Record
pub mod Hex
pub mod Writer
pub mod Paper
pub mod RoundTrip
pub mod Series
pub mod Laws
