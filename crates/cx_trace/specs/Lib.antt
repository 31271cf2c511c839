pub mod Put
pub mod Reply
pub mod Summary
pub mod Trace
