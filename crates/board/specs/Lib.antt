mod Examples
pub mod Place
pub mod Edit
pub mod Search
pub mod Read
