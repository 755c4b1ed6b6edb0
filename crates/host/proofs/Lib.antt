pub mod OutOfRange
pub mod BreaksAdded
