pub mod Rule
pub mod Steps
pub mod Pieces
pub mod Feeding
pub mod Lengths
pub mod Framed
pub mod Parsing
pub mod Firsts
