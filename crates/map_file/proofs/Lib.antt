pub mod Ranks
pub mod Bodies
pub mod Marked
pub mod Sizes
pub mod Room
pub mod Steps
pub mod Reading
pub mod Local
