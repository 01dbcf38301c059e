pub mod Worked
pub mod LoopLaws
pub mod AnswerLaws
pub mod LengthLaws
pub mod ListingLaws
pub mod RunnerLaws
pub mod OnlyLaws
