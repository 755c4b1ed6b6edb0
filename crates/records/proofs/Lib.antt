pub mod Marks
pub mod Nested
pub mod Alone
