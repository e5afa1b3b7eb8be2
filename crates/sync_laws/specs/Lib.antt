pub mod Stands
pub mod Whole
pub mod GlobalRun
pub mod ToCome
pub mod InARow
