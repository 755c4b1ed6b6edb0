pub mod Limited
pub mod Size
pub mod Put
pub mod First
pub mod Board
pub mod Build
