pub mod Alive
pub mod Examples
