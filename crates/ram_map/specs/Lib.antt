pub mod Sizes
pub mod Contents
pub mod Places
pub mod ContentsLaws
