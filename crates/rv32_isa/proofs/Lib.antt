pub mod Words
pub mod Immediates
pub mod FormatLaws
pub mod TableLaws
