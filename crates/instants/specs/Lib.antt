pub mod Instants
pub mod Column
