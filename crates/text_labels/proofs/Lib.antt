pub mod LabelPieces
