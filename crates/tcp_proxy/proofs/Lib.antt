pub mod Parting
pub mod Popping
pub mod SentBytes
pub mod Pushing
pub mod Asked
pub mod Filling
pub mod Prefixes
