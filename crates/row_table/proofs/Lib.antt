pub mod Marks
pub mod Truth
pub mod Atoms
pub mod Nodes
pub mod Some
