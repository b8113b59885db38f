pub mod Output
pub mod Written
