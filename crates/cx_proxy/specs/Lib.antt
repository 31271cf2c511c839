pub mod Declined
pub mod Holds
pub mod Rows
pub mod Slots
pub mod Tending
