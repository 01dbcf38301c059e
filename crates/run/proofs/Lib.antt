pub mod FinalLaws
pub mod ShownLaws
pub mod FitLaws
pub mod PassedLaws
pub mod OnlyLaws
pub mod CoreLaws
