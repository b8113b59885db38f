pub mod Shape
pub mod Tables
