pub mod Plays
pub mod View
