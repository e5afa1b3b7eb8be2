pub mod Starts
pub mod Frames
pub mod Faults
pub mod Deframing
pub mod Framing
