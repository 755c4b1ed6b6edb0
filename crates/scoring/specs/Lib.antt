pub mod Scores
pub mod View
