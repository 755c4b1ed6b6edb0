pub mod Texts
pub mod Writing
pub mod Fits
