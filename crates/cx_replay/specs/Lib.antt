pub mod Generated
pub mod Input
pub mod Lawful
pub mod Replay
pub mod ReplayInput
pub mod Sending
pub mod Streamed
