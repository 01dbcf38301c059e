pub mod SayLaws
pub mod EntryLaws
