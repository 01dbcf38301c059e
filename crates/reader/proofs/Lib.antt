pub mod WordLaws
pub mod LineLaws
pub mod ParseLaws
pub mod AnswerLaws
pub mod ShortLaws
