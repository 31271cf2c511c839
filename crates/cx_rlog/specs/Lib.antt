pub mod Packed
pub mod Short
pub mod State
pub mod Taken
