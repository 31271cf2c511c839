pub mod Holding
pub mod Receivers
pub mod Rows
pub mod Same
