pub mod Objects
pub mod Map
pub mod Attributes
