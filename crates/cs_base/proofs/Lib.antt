pub mod FirstLines
pub mod Given
pub mod Plans
