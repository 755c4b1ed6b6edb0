pub mod Roots
mod Examples
