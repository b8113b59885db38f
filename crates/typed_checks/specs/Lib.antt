pub mod Fold
pub mod Tests
pub mod Said
