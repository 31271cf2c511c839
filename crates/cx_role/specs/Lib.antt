pub mod Outbox
pub mod Own
pub mod Prelude
pub mod Role
pub mod Snap
pub mod Wake
