pub mod Satisfies
pub mod Model
pub mod Shown
pub mod Verdict
