pub mod Playing
pub mod Answers
