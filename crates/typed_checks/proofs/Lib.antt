pub mod Steps
pub mod Folds
pub mod Numbers
pub mod Judged
