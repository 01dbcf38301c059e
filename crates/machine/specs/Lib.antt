pub mod Bench
pub mod Counts
pub mod StepCounts
pub mod Shown
