pub mod Windows
pub mod Rows
pub mod Keep
pub mod Steps
