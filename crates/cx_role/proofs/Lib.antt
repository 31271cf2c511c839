pub mod Common
pub mod Named
pub mod Own
pub mod Ranges
pub mod Reopening
pub mod Sends
pub mod Step
