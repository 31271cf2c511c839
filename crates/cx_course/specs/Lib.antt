pub mod Action
pub mod Alike
pub mod Changing
pub mod Course
pub mod Follows
pub mod Hosted
pub mod Run
pub mod Tending
