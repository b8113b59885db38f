pub mod Places
pub mod Few
