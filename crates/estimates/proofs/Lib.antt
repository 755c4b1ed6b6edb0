pub mod Range
pub mod Epsilon
