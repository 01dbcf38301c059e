pub mod QueueLaws
pub mod MarkLaws
pub mod StandLaws
pub mod RefusalLaws
pub mod ConditionLaws
pub mod PlayLaws
pub mod JudgedLaws
