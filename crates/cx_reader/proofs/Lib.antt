pub mod Counted
pub mod Entries
pub mod FitLaws
pub mod Live
pub mod Memory
pub mod Opened
pub mod Ranges
pub mod Turns
