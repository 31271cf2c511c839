pub mod Pieces
pub mod Since
