pub mod AnyKind
pub mod AnyKindLaws
pub mod Images
pub mod Starts
