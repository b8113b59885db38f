pub mod Forms
pub mod Descent
