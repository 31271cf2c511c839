pub mod Knowing
pub mod Promising
pub mod Proposing
pub mod State
pub mod Tending
