pub mod Dialed
pub mod Engaged
pub mod Standing
pub mod Keeping
pub mod Meeting
pub mod Taken
pub mod Gone
