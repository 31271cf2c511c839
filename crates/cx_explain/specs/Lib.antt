pub mod Checking
pub mod Finding
pub mod Header
pub mod Judging
pub mod Meant
pub mod Rules
pub mod Saying
pub mod Spots
