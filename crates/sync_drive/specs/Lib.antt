pub mod Tries
pub mod Standing
pub mod Turns
