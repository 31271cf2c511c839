pub mod Bypassed
pub mod Full
