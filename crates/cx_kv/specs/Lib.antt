pub mod Acting
pub mod Picked
pub mod Place
pub mod Printed
pub mod Rising
pub mod State
