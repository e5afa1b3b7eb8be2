pub mod Moments
pub mod NamedLines
pub mod Ordered
pub mod Merging
