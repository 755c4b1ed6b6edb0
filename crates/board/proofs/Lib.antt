pub mod Steps
pub mod Rooms
pub mod Alones
pub mod Binds
pub mod Edits
pub mod Searches
pub mod Readings
pub mod Numbers
