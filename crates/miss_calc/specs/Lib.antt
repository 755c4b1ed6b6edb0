pub mod Counts
pub mod Threshold
pub mod Multiplier
pub mod ScoreBased
mod Examples
