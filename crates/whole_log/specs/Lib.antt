pub mod Log
pub mod Part
pub mod Written
pub mod Repeated
pub mod Cases
