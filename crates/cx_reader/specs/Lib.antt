pub mod Live
pub mod Reads
pub mod Running
