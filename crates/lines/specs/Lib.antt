pub mod Lines
pub mod Twins
