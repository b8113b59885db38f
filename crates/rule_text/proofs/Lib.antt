pub mod Spelling
pub mod Descent
pub mod Room
