pub mod Numbers
pub mod InBytes
