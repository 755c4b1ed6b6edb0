pub mod LayingRight
pub mod BuiltRight
pub mod ByMark
