pub mod Replayed
pub mod Laws
pub mod Report
