pub mod Dialing
pub mod Engaging
pub mod Ending
pub mod Leaving
