-- How long the lines are at most.
pub mod Lengths
