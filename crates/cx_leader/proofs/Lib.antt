pub mod BySlot
pub mod Fits
pub mod Knows
pub mod MatchLaws
pub mod Opened
pub mod PromiseLaws
pub mod Proposed
