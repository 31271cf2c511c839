pub mod MemKeeper
pub mod Pieces
