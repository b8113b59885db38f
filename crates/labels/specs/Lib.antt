pub mod Fnv
pub mod Label
pub mod Table
pub mod Search
