-- Laws of bit patterns and of a float's parts.
pub mod Fields
pub mod Laws
