pub mod Bounds
pub mod Documents
pub mod Members
pub mod Numbers
