pub mod FromDevice
pub mod FromHost
