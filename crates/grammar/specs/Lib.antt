pub mod Written
pub mod Forms
pub mod Naming
pub mod Layout
pub mod MetBytes
pub mod MetRule
pub mod Stands
