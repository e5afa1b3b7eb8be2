pub mod Bits
pub mod Formats
pub mod Table
