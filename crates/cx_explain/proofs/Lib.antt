pub mod Agreeing
pub mod Bounds
pub mod Numbers
