mod Ends
mod Stepped
mod Work
mod Read
mod Ended
pub mod Built
mod Kept
pub mod Begun
mod Keeping
pub mod Runners
pub mod Started
mod Finished
pub mod Outcomes
mod Going
mod Ending
mod Flat
mod Falling
mod Numbered
mod Walked
mod Rounds
mod Between
pub mod Enabled
pub mod Sent
