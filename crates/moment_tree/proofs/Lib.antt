pub mod Ways
pub mod Dues
pub mod Views
