pub mod Accuracy
pub mod ComboBased
pub mod Effective
