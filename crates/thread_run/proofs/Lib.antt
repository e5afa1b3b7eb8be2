mod Closings
mod Reserving
mod Ports
mod Telling
mod Blaming
mod Spending
pub mod Faultless
