pub mod QueueEnds
pub mod Faults
pub mod Outward
pub mod Inward
pub mod OutLaws
pub mod InLaws
pub mod Differing
