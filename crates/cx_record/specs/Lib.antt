pub mod Examples
pub mod Lines
pub mod Numbers
pub mod Pieces
pub mod Readable
pub mod Table
