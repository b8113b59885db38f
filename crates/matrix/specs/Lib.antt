pub mod Matrix
pub mod Ready
