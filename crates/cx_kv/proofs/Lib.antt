pub mod Behind
pub mod Keys
pub mod Maps
pub mod Names
pub mod Picking
pub mod Pushing
pub mod Used
