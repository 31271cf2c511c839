pub mod Linearizable
pub mod History
pub mod Examples
