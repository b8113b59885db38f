pub mod Signs
pub mod Finding
