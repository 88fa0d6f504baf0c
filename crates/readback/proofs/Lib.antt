pub mod Fronts
pub mod Batches
pub mod PiecesSame
pub mod Rests
pub mod Types
