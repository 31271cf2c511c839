pub mod Digits
mod Found
pub mod Grids
mod Placed
pub mod Reading
pub mod Rows
pub mod Spelled
pub mod Spelling
pub mod Words
