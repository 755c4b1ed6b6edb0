-- Of a play with factors: its numbers and its values, and the range of both estimates.
pub mod Laws
pub mod Range
