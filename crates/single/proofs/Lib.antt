pub mod LineMeans
pub mod Advanced
pub mod LineCall
