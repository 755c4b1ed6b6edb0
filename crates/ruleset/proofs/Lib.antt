-- Laws of the signed sums, of the ratio, of the breaks, and of the stars' range.
pub mod Signs
mod Ratios
pub mod Stars
pub mod Breaks
pub mod FileBreaks
pub mod Drains
