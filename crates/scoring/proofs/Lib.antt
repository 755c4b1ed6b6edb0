pub mod Answers
pub mod Lists
pub mod Behind
pub mod Playing
pub mod Rules
