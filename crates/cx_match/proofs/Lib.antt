pub mod EntryLaws
pub mod FitLaws
pub mod SoundLaws
pub mod Telling
