pub mod Labels
pub mod Trip
