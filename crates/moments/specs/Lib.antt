pub mod Shape
pub mod Open
pub mod Ready
