pub mod Bytes
pub mod Told
pub mod Places
pub mod Words
pub mod Spelled
pub mod Quotes
pub mod Repeats
pub mod Blanks
