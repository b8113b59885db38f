pub mod Tests
pub mod Between
pub mod Given
pub mod Ranked
pub mod Meaning
pub mod PairBytes
