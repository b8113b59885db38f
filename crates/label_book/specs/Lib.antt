pub mod Book
pub mod Reading
pub mod Piece
