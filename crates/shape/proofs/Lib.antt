pub mod Bits
pub mod Nodes
pub mod Tables
pub mod Shapes
pub mod Truth
