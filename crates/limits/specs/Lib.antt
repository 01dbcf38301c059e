pub mod Lists
pub mod Operations
pub mod Refusals
pub mod Parts
pub mod Inputs
