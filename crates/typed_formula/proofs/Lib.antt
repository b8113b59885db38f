pub mod Stands
pub mod FileSays
pub mod NamedOnce
pub mod Relations
pub mod Reported
pub mod Unbound
