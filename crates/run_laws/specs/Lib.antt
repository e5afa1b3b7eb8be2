pub mod Wired
pub mod LocalRuns
pub mod GlobalMessages
pub mod Upto
pub mod ByChannel
pub mod NextEvent
pub mod TwoBeacons
pub mod Whole
