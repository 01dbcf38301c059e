pub mod ShowLaws
pub mod PlanLaws
pub mod StageLaws
pub mod PhaseLaws
pub mod ScanLaws
pub mod StepLaws
pub mod FaithfulLaws
