pub mod Rowed
pub mod Some
pub mod Ready
