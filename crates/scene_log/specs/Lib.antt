pub mod Numbers
pub mod InBytes
pub mod Texts
pub mod Slips
pub mod LabelText
