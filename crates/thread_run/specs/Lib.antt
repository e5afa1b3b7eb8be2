pub mod Closing
pub mod Spent
pub mod Whole
