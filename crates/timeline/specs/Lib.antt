pub mod Root
pub mod AllLines
