pub mod Held
pub mod Judging
pub mod Notes
pub mod Pushing
pub mod Rising
pub mod Telling
