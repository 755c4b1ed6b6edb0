pub mod Front
pub mod Loop
pub mod Heats
