pub mod Answering
pub mod Room
pub mod Rows
pub mod Sound
pub mod Waiting
