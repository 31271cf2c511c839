pub mod CountLaws
pub mod FitLaws
pub mod JoinLaws
pub mod Opened
