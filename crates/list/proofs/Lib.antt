pub mod Fronts
pub mod Listings
