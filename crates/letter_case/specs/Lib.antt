pub mod Recased
