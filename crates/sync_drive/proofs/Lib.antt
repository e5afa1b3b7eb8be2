pub mod Ends
pub mod Kept
pub mod Causes
pub mod Fit
pub mod Moves
pub mod Failures
pub mod Plans
