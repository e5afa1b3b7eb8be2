pub mod FrameLists
pub mod Faultless
pub mod Kept
pub mod Way
pub mod Counting
