pub mod Asking
pub mod Client
pub mod Completes
pub mod Examples
pub mod Window
