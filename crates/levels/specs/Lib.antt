pub mod Levels
pub mod Carried
