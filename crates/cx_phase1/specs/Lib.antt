pub mod Best
pub mod Counting
pub mod Planned
pub mod Sound
pub mod Window
