mod Acted
mod ClientName
mod Crashes
mod Ends
mod Lending
mod Named
mod RefusedPlace
mod StoresBack
mod Woken
pub mod FirstBad
pub mod GivenBack
pub mod Lent
pub mod OpenedRoles
pub mod Unused
