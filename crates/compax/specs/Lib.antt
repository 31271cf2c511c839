pub mod Answer
pub mod Checked
pub mod Further
pub mod Line
pub mod Roles
pub mod Words
