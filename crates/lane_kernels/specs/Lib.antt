pub mod Checksum
pub mod Difference
