-- Laws on floats that belong to no one function: bounds and intervals through the operations, the order of
-- bit patterns, and exact whole numbers.
pub mod Bounds
pub mod Wholes
pub mod Order
pub mod Magnitudes
pub mod Intervals
pub mod Within
pub mod Patterns
pub mod Literals
