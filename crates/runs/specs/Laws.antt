pub mod Map
pub mod Runs
pub mod Pieces
pub mod Pages
pub mod Files
pub mod Found
