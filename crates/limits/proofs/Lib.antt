pub mod FitLaws
pub mod LimitsLaws
pub mod PassLaws
pub mod ChainLaws
pub mod SearchLaws
