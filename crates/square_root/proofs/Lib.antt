-- Laws on whole roots and on their rounding, and the theorem that the root is the nearest double.
mod Assembly
mod Cases
mod DivisionStep
pub mod Grid
pub mod Isqrt
mod Middle
pub mod Nearest
mod Rounded
pub mod Sqrt
