pub mod Answers
pub mod Begins
pub mod Held
pub mod Kept
pub mod Requests
pub mod Short
