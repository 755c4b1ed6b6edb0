pub mod BaseScore
pub mod Drain
pub mod Stars
