pub mod Twins
pub mod Lent
