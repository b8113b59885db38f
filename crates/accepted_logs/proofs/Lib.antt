pub mod Numbers
pub mod NewLabel
pub mod AfterMet
pub mod Spoken
