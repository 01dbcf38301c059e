pub mod RunText
pub mod Spelling
pub mod Wrong
pub mod Reading
pub mod Answers
pub mod Twins
