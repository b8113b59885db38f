-- What the proofs of several functions use.
mod Numbered
mod InBytes
pub mod Texts
mod Slips
pub mod LabelText
