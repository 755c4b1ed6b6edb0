pub mod Limits
pub mod Encoding
