pub mod Writing
pub mod ReadBack
pub mod Fine
pub mod TakenFile
pub mod Answers
