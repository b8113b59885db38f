pub mod RoundTrip
pub mod Means
pub mod Weights
pub mod Texts
