pub mod Fits
pub mod Reopened
