mod Unused
pub mod Kept
pub mod Going
pub mod Counted
pub mod Determined
