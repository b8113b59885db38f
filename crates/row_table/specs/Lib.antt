pub mod Truth
pub mod Rows
pub mod Ranks
