pub mod Order
pub mod File
pub mod View
pub mod Examples
