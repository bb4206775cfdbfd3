-- The map, its runs and pieces. Definitions stand here, what is proved of them under Laws.
pub mod Sizes
pub mod Map
pub mod Found
pub mod Runs
pub mod Pages
pub mod Pieces
pub mod Tally
pub mod Survey
pub mod Laws
