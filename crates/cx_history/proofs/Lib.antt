pub mod Among
pub mod Asking
pub mod Counting
pub mod Keeping
pub mod Shorts
pub mod Steps
