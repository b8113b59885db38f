pub mod Layout
pub mod Pairs
pub mod Word
pub mod Code
pub mod Refresh
pub mod Start
