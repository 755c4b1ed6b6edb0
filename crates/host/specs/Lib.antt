pub mod Status
pub mod Map
pub mod Play
pub mod Answer
pub mod Breaks
mod Examples
