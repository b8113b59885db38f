pub mod Printed
pub mod Walk
