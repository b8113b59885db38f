pub mod Signed
pub mod Ranks
pub mod Widths
pub mod Common
