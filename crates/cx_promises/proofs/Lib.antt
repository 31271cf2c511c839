pub mod Heard
pub mod Lawful
