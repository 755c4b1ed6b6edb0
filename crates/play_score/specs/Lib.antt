mod Examples
pub mod PlayRules
