pub mod Limits
pub mod Formula
pub mod Parts
pub mod Labels
pub mod Table
pub mod Checks
pub mod Rules
pub mod Cases
