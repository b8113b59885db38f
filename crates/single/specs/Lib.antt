pub mod Handed
pub mod Line
pub mod Step
