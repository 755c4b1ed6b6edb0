mod Examples
pub mod Lines
