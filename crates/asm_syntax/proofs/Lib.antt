pub mod Encodable
pub mod FormRanges
pub mod LineRanges
pub mod Names
pub mod Numerals
pub mod RangeLaws
