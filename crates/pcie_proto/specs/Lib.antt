pub mod FromDevice
pub mod FromHost
pub mod Refusals
pub mod Regions
