pub mod Ending
pub mod Counted
pub mod Lines
pub mod Marks
pub mod Meaning
pub mod Ranks
pub mod Stable
