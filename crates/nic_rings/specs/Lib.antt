pub mod Rings
pub mod Descriptors
