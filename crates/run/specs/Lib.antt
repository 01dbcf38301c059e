pub mod Run
pub mod Core
pub mod FinalTwin
pub mod Lent
