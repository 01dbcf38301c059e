pub mod Conditions
pub mod Decide
pub mod Verdict
pub mod Numbers
pub mod Linear
