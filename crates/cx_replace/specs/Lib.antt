pub mod Joining
pub mod State
