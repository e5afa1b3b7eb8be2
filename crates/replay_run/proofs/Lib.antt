pub mod Taken
pub mod Determined
