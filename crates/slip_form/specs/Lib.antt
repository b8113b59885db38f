pub mod Form
pub mod Slips
pub mod Chain
