pub mod Tree
pub mod Emit
pub mod Atoms
pub mod Readers
