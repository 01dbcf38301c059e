pub mod History
pub mod Standing
pub mod Decide
pub mod Codes
