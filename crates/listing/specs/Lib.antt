pub mod Listing
pub mod Twins
