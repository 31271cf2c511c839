pub mod Copies
pub mod Letter
pub mod LetterParts
pub mod Messages
pub mod Names
pub mod Prelude
pub mod Records
