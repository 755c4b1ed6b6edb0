pub mod HalfSpins
pub mod Bonus
mod Examples
