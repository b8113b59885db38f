pub mod Words
pub mod Grammar
pub mod Formula
pub mod File
pub mod Text
pub mod Met
