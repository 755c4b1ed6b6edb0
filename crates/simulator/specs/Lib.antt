pub mod Hits
pub mod Walk
pub mod Combo
pub mod Nested
pub mod Attributes
pub mod Limits
pub mod View
