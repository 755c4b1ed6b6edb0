pub mod Bits
mod Examples
pub mod Floats
pub mod MinMax
pub mod Rounding
pub mod Words
