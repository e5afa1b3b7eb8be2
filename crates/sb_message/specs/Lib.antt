pub mod Receivable
pub mod Refusals
pub mod Spelling
pub mod Stream
pub mod Types
