-- What a float literal of the code and a constant of the definitions are computed by: to unfold where the two meet.
pub use lib.Ieee.{of_bits, of_int, round, neg}
