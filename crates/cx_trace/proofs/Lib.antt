pub mod Begins
pub mod Telling
