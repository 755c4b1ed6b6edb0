pub mod FieldBytes
pub mod RecordsBack
pub mod RoundTrip
pub mod Written
pub mod Accepted
pub mod FileBytes
