pub mod Exp
mod Examples
