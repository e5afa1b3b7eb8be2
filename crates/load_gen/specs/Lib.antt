pub mod Load
pub mod Ping
