pub mod Tables
pub mod Levels
pub mod Taken
pub mod Places
pub mod Leaves
