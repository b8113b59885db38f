pub mod Places
pub mod Asked
pub mod Levels
pub mod Given
