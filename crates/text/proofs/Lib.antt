-- Laws of the definitions that belong to no one function.
pub mod Copies
pub mod Numbers
pub mod Space
