pub mod Entry
pub mod Words
pub mod Scores
