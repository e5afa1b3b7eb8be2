pub mod Frame
pub mod Spelling
