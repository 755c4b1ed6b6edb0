pub mod Laws
pub mod All
pub mod Steps
pub mod Numbers
