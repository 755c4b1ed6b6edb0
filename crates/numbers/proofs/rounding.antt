-- Laws of the nearest whole number, of the range of an i32, and of cutting toward zero.
pub mod Bounded
pub mod Closest
pub mod Cutting
mod Added
mod Even
mod Range
