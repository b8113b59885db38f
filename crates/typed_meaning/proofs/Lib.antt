pub mod Numbering
pub mod Pigeonhole
pub mod LabelsSaid
pub mod NameNumber
pub mod Names
pub mod SaysOne
pub mod Judgement
pub mod TextMet
