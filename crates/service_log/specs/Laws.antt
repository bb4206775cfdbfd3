pub mod Big
pub mod FalseRecords
pub mod Log
pub mod Sessions
pub mod Determined
