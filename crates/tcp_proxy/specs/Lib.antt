pub mod Comparing
pub mod Turns
pub mod Sending
pub mod Receiving
pub mod Filled
