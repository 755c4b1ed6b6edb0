-- Laws of the little-endian definitions, for the proofs here and for round trips of record files.
pub mod Laws
mod Reading
