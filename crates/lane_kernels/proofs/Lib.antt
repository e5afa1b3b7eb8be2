pub mod Sums
pub mod Equals
