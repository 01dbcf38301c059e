pub mod PermuteLaws
pub mod CompletionLaws
pub mod LineLaws
pub mod SoundLaws
pub mod CompleteLaws
pub mod VerdictLaws
