pub mod Decimal
pub mod Samples
pub mod Reading
pub mod Places
pub mod Words
