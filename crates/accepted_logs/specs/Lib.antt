pub mod MetAfter
pub mod Spoken
