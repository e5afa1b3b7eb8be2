pub mod Summary
pub mod Load
