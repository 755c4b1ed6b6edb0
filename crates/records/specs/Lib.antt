pub mod Fields
pub mod Marks
pub mod Objects
pub mod Records
