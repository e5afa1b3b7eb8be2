pub mod Port
pub mod Plain
pub mod Streams
pub mod PlainLaws
pub mod Runs
