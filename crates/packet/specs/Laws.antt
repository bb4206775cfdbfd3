pub mod Turn
pub mod Table
pub mod Packet
pub mod RoundTrip
pub mod Determined
