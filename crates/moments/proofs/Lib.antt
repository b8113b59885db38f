pub mod Masks
pub mod Tried
pub mod Open
pub mod Ready
