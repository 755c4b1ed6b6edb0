pub mod Marked
pub mod Props
