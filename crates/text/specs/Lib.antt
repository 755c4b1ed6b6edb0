pub mod Ascii
mod Examples
pub mod Numbers
pub mod Pages
pub mod Space
