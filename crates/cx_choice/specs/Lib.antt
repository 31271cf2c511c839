pub mod Chains
pub mod Enough
pub mod OfRound
pub mod Prefix
pub mod Sorted
