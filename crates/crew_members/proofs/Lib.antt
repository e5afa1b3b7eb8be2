pub mod Fared
pub mod Sorted
pub mod OfWorkers
pub mod Turned
pub mod ThreeSorts
pub mod InStaff
