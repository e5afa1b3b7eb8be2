pub mod Hands
pub mod HandLaws
pub mod Faring
pub mod Sorts
pub mod Staffing
