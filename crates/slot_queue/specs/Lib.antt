pub mod Words
pub mod Rule
pub mod Views
pub mod Ends
pub mod Plays
pub mod EndLaws
pub mod Closing
pub mod Rising
