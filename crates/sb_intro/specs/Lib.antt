pub mod Expected
pub mod Spelling
