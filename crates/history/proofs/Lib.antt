pub mod CodeLaws
pub mod HistoryLaws
pub mod ListLaws
pub mod PrecedenceLaws
pub mod PrecedenceLists
