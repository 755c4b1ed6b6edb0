pub mod Difficulty
pub mod SliderBreaks
pub mod Given
mod Examples
