pub mod Cases
pub mod Tells
pub mod Lists
pub mod Below
