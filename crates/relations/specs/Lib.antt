pub mod Relation
pub mod Sets
pub mod Runs
pub mod Pairs
pub mod Compose
