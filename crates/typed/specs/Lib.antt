pub mod Grammar
pub mod Parsing
